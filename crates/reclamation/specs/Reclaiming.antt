-- What the reclamation of a pool did.
use Rattle.std.specs.Prelude.{◌≡◌, ◌⊎◌, ◌≤◌, ℕ, ◌+◌, ◌==◌, Bool, true, false, not, List, [], ◌∷◌, map, length, if◌then◌else◌, Option, None, Some, Result, Ok, Err}
use Rattle.std.specs.List.{AllByRecursion, find}
use Rattle.kinds.specs.Names.{is_same_name}
use Rattle.kinds.specs.Refusals.{number_of}
use Rattle.kinds.specs.declared.refusal.Refusal.{Refusal}
use Rattle.kinds.specs.declared.refusal.Refusal.TheVariants as refused
use Rattle.inventory_answers.specs.declared.lines.PoolLine.{PoolLine}
use Rattle.inventory_answers.specs.declared.query.Query.TheVariants as query
use Rattle.inventory_answers.specs.declared.reply.Answer.{Answer}
use Rattle.inventory_answers.specs.declared.reply.Rows.TheVariants as rows
use Rattle.inventory_work.specs.declared.lines.CopyLine.{CopyLine}
use Rattle.inventory_work.specs.Volumes.{eligible_in}
use Rattle.inventory_rows.specs.version_groups.declared.copies.CopyRow.{CopyRow}
use Rattle.inventory_rows.specs.pool_rows.PoolRows.{is_sequential}
use Rattle.inventory_rows.specs.Search.{lies_on}
use Rattle.inventory_rules.specs.Valid.{disk}
use Rattle.steps.specs.Calls.{Then}
use Rattle.steps.specs.Events.{Deed, Event, event}
use Rattle.steps.specs.Events.Deed.{Ask}
use Rattle.steps.specs.Receipts.{receipts}
use Rattle.machine.specs.Fits.{Fits, History, Own, inv}
use Rattle.copy_attempts.specs.Attempts.{stopping}
use Rattle.copy_attempts.specs.Outcomes.{MetBy, may_leave}
use Rattle.steps.specs.Spent.{AreSettled}
use Rattle.copy_runs.specs.declared.wanted.Moved.{Moved}
use Rattle.copy_runs.specs.Ends.{AreAsking, AskedPools, Finished, IsEnding, IsStopped, IsUnheld, IsUnlisted, Unanswered, first_of, last_of}
use Rattle.copy_runs.specs.Returning.{AreValid, Holds, is_kept}
use Rattle.copy_runs.specs.Runs.{LeavesNone, Run, copies_in, failing_in, is_among}
use Rattle.copy_runs.specs.Tickets.{GotNoTicket}
use Rattle.copy_runs.specs.Wanting.{IsIn}
use Rattle.reclamation.specs.Moving.{EntersOff, HasFailedOff, IsMoving, Listed, into, moving}
use Rattle.reclamation.specs.Tried.{Key, fresh, seen}

-- ---- what is asked

-- the volumes of the pool were asked for that are to be emptied
abbrev pub ListedFiles : (pool threshold : ℕ) → List Event → List ℕ → Type 0
ListedFiles pool threshold events files = (n : ℕ) × (answer : Answer) × (events ≡ event n (Ask (query.Eligible pool threshold) (Ok answer)) ∷ []) × (answer.rows ≡ rows.Eligible files)

abbrev pub ListsFiles : (pool threshold : ℕ) → List Event → Result (List ℕ) Refusal → Type 0
ListsFiles pool threshold events (Ok files) = ListedFiles pool threshold events files
ListsFiles pool threshold events (Err e) = IsUnlisted (query.Eligible pool threshold) events e × AreAsking events

-- the volumes of this device class are of random access
abbrev pub is_disk : List ℕ → Bool
is_disk class = is_same_name class disk

-- the pool with this number, where it is among these
abbrev pub pool_with : ℕ → List PoolLine → Option PoolLine
pool_with pool lines = find (λ l. l.number == pool) lines

abbrev pub is_sequential_line : Option PoolLine → Bool
is_sequential_line None = false
is_sequential_line (Some line) = not (is_disk line.class)

-- the pool is among these, and sequential
abbrev pub is_sequential_in : ℕ → List PoolLine → Bool
is_sequential_in pool lines = is_sequential_line (pool_with pool lines)

abbrev pub Answered : (pool : ℕ) → List Event → Bool → Type 0
Answered pool events is = (lines : List PoolLine) × AskedPools events lines × (is_sequential_in pool lines ≡ is)

abbrev pub ChecksPool : (pool : ℕ) → List Event → Result (Unit {0}) Refusal → Type 0
ChecksPool pool events (Ok done) = Answered pool events true
ChecksPool pool events (Err e) = Unanswered events e ⊎ ((e ≡ refused.NotFound) × Answered pool events false)

-- the refusal is want of memory, or ends a process; or the pool isn't there or isn't sequential, as one of the questions was answered
abbrev pub IsRefusedPool : (pool threshold : ℕ) → List Event → Refusal → Type 0
IsRefusedPool pool threshold events e =
    IsUnlisted (query.Eligible pool threshold) events e
    ⊎ ((e ≡ refused.NotFound) × (files : List ℕ) × Then (λ xs. ListedFiles pool threshold xs files) (λ ys. Answered pool ys false) events)

abbrev pub Begun : (pool threshold : ℕ) → (files : List ℕ) → List Event → Type 0
Begun pool threshold files events = Then (λ xs. ListedFiles pool threshold xs files) (λ ys. Answered pool ys true) events

abbrev pub BeginsPool : (pool threshold : ℕ) → List Event → Result (List ℕ) Refusal → Type 0
BeginsPool pool threshold events (Ok files) = Begun pool threshold files events
BeginsPool pool threshold events (Err e) = IsRefusedPool pool threshold events e × AreAsking events

-- ---- the volumes, one after the other

-- no copy lies on a volume that isn't there
abbrev pub absent_by : Refusal → Result (List CopyLine) Refusal
absent_by e = if number_of e == 10 then Ok [] else Err (stopping e)

-- the volume wasn't there
abbrev pub IsAbsent : ℕ → List Event → List CopyLine → Type 0
IsAbsent file events lines = (lines ≡ []) × (n : ℕ) × (e : Refusal) × ((number_of e == 10) ≡ true) × (events ≡ event n (Ask (query.OnVolume file) (Err e)) ∷ [])

-- the copies on the volume were asked for: none, where it wasn't there
abbrev pub ListedThere : ℕ → List Event → List CopyLine → Type 0
ListedThere file events lines = Listed file events lines ⊎ IsAbsent file events lines

abbrev pub ListsThere : ℕ → List Event → Result (List CopyLine) Refusal → Type 0
ListsThere file events (Ok lines) = ListedThere file events lines
ListsThere file events (Err e) = Unanswered events e

-- the turn of a volume: the copies that were listed, and what came of those that weren't tried before
pub record Turn : Type 0 where
  pub file : ℕ
  pub lines : List CopyLine
  pub came : Moved

-- its copies were asked for, and those that weren't tried before were moved, without a use of the volume
abbrev pub Turned : (pool : ℕ) → (tried : List Key) → Turn → List Event → Type 0
Turned pool tried t events = Then (λ xs. ListedThere t.file xs t.lines) (λ ys. Run (map (moving pool) (fresh tried t.lines)) t.file ys (Ok t.came)) events

-- so were those of these volumes
abbrev pub Turns : (pool : ℕ) → (tried : List Key) → List Turn → List Event → Type 0
Turns pool tried [] events = events ≡ []
Turns pool tried (t ∷ turns) events = Then (λ xs. Turned pool tried t xs) (λ ys. Turns pool (seen tried t.lines) turns ys) events

abbrev pub files_of : List Turn → List ℕ
files_of turns = map (λ t. t.file) turns

-- the copies that were tried behind them
abbrev pub tried_behind : List Key → List Turn → List Key
tried_behind tried [] = tried
tried_behind tried (t ∷ turns) = tried_behind (seen tried t.lines) turns

-- the counts of both
abbrev pub both_moved : Moved → Moved → Moved
both_moved m k = record { moved = m.moved + k.moved; failed = m.failed + k.failed }

-- those of all turns
abbrev pub sum_of : List Turn → Moved
sum_of [] = record { moved = 0; failed = 0 }
sum_of (t ∷ turns) = both_moved t.came (sum_of turns)

-- these volumes had their turns, where these copies had been tried before, and those are behind them
pub record Emptied (pool : ℕ) (files : List ℕ) (old new : List Key) (events : List Event) (m : Moved) : Type 0 where
  pub turns : List Turn
  pub all : files_of turns ≡ files
  pub done : Turns pool old turns events
  pub tried : new ≡ tried_behind old turns
  pub count : m ≡ sum_of turns

-- ---- steps

-- it asks or forces, or makes an attempt for the move of a copy to the pool that avoids one of these volumes
abbrev pub IsReclaiming : (files : List ℕ) → (pool : ℕ) → Deed → Type 0
IsReclaiming files pool d = IsEnding d ⊎ ((file : ℕ) × IsIn file files × IsMoving file pool d)

abbrev pub AreReclaiming : (files : List ℕ) → (pool : ℕ) → List Event → Type 0
AreReclaiming files pool events = AllByRecursion (λ e. IsReclaiming files pool e.deed) events

-- the pool wasn't there any more where a copy that was listed was to go there
abbrev pub IsUnopened : (pool : ℕ) → List Event → Refusal → Type 0
IsUnopened pool events e =
    ((number_of e == 10) ≡ true)
    × ((file : ℕ) × (object : ℕ) × (from : ℕ) × (placed : ℕ) × GotNoTicket object from placed (into pool from) false file events e)

-- These steps ended with this refusal: it has its cause, it waits for no transaction that a force would make durable, they were no others, and no ticket is left, unless none can be given back.
pub record Breaks (files : List ℕ) (pool : ℕ) (events : List Event) (e : Refusal) : Type 0 where
  pub cause : IsStopped events e ⊎ IsUnopened pool events e
  pub unheld : IsUnheld events e
  pub only : AreReclaiming files pool events
  pub entries : EntersOff pool events
  pub settled : may_leave (Err e) ≡ false → AreSettled events
  pub none_left : may_leave (Err e) ≡ false → LeavesNone events

-- ---- parts

-- one volume had its turn
abbrev pub Clears : (pool : ℕ) → (old new : List Key) → (file : ℕ) → List Event → Result Moved Refusal → Type 0
Clears pool old new file events (Ok m) = (lines : List CopyLine) × (new ≡ seen old lines) × Turned pool old (record { file = file; lines = lines; came = m }) events
Clears pool old new file events (Err e) = Breaks (file ∷ []) pool events e

-- all of them had
abbrev pub ClearsAll : (pool : ℕ) → (files : List ℕ) → (old : List Key) → List Event → Result Moved Refusal → Type 0
ClearsAll pool files old events (Ok m) = (new : List Key) × Emptied pool files old new events m
ClearsAll pool files old events (Err e) = Breaks files pool events e

-- and then all was made durable
abbrev pub Works : (pool : ℕ) → (files : List ℕ) → List Event → Result Moved Refusal → Type 0
Works pool files events (Ok m) = Then (λ xs. ClearsAll pool files [] xs (Ok m)) Finished events
Works pool files events (Err e) = Breaks files pool events e

-- ---- the row

-- In every history of valid databases that the events fit: a copy that lies, where it begins, on a volume that is to be emptied then isn't there at the last step's number, as the same transaction
-- placed it, or its object is counted as failed.
abbrev pub AreMovedOff : (pool threshold : ℕ) → (failed : List ℕ) → List Event → Type 0
AreMovedOff pool threshold failed events =
    (w : History) (actor : ℕ) (a b : Own) → AreValid w → a.tickets ≡ [] → Fits w actor a events b
    → (file object : ℕ) (copy : CopyRow) → IsIn file (eligible_in pool threshold (inv w (first_of events)).stores) → Holds object copy (inv w (first_of events)) → lies_on file copy ≡ true
    → (is_among object failed ≡ true) ⊎ (is_kept object copy (inv w (last_of events)) ≡ false)

-- In every such history the pool is there and sequential at one of the numbers; or it isn't.
abbrev pub IsSequential : (pool : ℕ) → List Event → Bool → Type 0
IsSequential pool events is =
    (w : History) (actor : ℕ) (a b : Own) → AreValid w → Fits w actor a events b
    → (n : ℕ) × (first_of events ≤ n) × (n ≤ last_of events) × (is_sequential pool (inv w n).stores ≡ is)

-- ---- the whole

-- each failed object had an attempt for such a move that failed
abbrev pub HasFailedOn : (files : List ℕ) → (pool : ℕ) → List Event → (object : ℕ) → Type 0
HasFailedOn files pool events object = (file : ℕ) × IsIn file files × HasFailedOff file pool events object

-- it began with the questions for these volumes and for the pool, the volumes had their turns in this order, and all was made durable
abbrev pub IsInOrder : (pool threshold : ℕ) → (files : List ℕ) → List Event → Moved → Type 0
IsInOrder pool threshold files events m = Then (λ xs. Begun pool threshold files xs) (λ ys. Works pool files ys (Ok m)) events

-- What it did where it answered counts: they are those of the copies in its receipts, and of objects that failed, which are no more than its steps that were so refused; the row; its steps
-- came in their order; the pool was sequential; and no ticket is left.
pub record Reclaimed (pool threshold : ℕ) (files : List ℕ) (events : List Event) (m : Moved) : Type 0 where
  pub failed : List ℕ
  pub moved : m.moved ≡ copies_in (receipts events)
  pub number : length failed ≡ m.failed
  pub risen : m.failed ≤ failing_in events
  pub each : AllByRecursion (HasFailedOn files pool events) failed
  pub row : AreMovedOff pool threshold failed events
  pub order : IsInOrder pool threshold files events m
  pub sequential : IsSequential pool events true
  pub settled : AreSettled events
  pub none_left : LeavesNone events

-- nothing but questions was asked, for the pools among them, and by the answer the pool isn't there or isn't sequential
abbrev pub TellsOtherwise : (pool : ℕ) → List Event → Type 0
TellsOtherwise pool events =
    AreAsking events
    × MetBy (λ d. (answer : Answer) × (lines : List PoolLine) × (d ≡ Ask (query.Pools None) (Ok answer)) × (answer.rows ≡ rows.Pools lines) × (is_sequential_in pool lines ≡ false)) events

-- the pool isn't there or isn't sequential, or it wasn't there any more where a copy was to go there
abbrev pub IsNotThere : (pool threshold : ℕ) → List Event → Refusal → Type 0
IsNotThere pool threshold events e =
    (((number_of e == 10) ≡ true) × MetBy (λ d. d ≡ Ask (query.Eligible pool threshold) (Err e)) events × AreAsking events)
    ⊎ ((e ≡ refused.NotFound) × IsSequential pool events false × TellsOtherwise pool events)
    ⊎ IsUnopened pool events e

-- What it did where it was refused: the refusal is want of memory, or one that ends a process and that one of its steps met, or the pool isn't there or isn't sequential; it waits for no transaction
-- that a force would make durable; and no ticket is left, unless none can be given back.
pub record Halted (pool threshold : ℕ) (events : List Event) (e : Refusal) : Type 0 where
  pub cause : IsStopped events e ⊎ IsNotThere pool threshold events e
  pub unheld : IsUnheld events e
  pub settled : may_leave (Err e) ≡ false → AreSettled events
  pub none_left : may_leave (Err e) ≡ false → LeavesNone events

abbrev pub CameTo : (pool threshold : ℕ) → (files : List ℕ) → List Event → Result Moved Refusal → Type 0
CameTo pool threshold files events (Ok m) = Reclaimed pool threshold files events m
CameTo pool threshold files events (Err e) = Halted pool threshold events e

-- its first question was answered with these volumes; or with none
abbrev pub IsTold : (pool threshold : ℕ) → (files : List ℕ) → List Event → Type 0
IsTold pool threshold files events = (files ≡ []) ⊎ Then (λ xs. ListedFiles pool threshold xs files) (λ ys. Unit {0}) events

-- What it did, that its steps were no others, for volumes that it was told of, and that each transaction which joined by them moves one copy.
pub record Reclamation (pool threshold : ℕ) (events : List Event) (result : Result Moved Refusal) : Type 0 where
  pub files : List ℕ
  pub told : IsTold pool threshold files events
  pub came : CameTo pool threshold files events result
  pub only : AreReclaiming files pool events
  pub entries : EntersOff pool events
