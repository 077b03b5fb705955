-- What the move of a volume's copies did.
use Rattle.std.specs.Prelude.{◌≡◌, ◌⊎◌, ◌≤◌, ℕ, ◌-◌, ◌==◌, Bool, true, false, List, [], ◌∷◌, map, length, if◌then◌else◌, Option, None, Some, Result, Ok, Err}
use Rattle.std.specs.List.{AllByRecursion, find, slice_get}
use Rattle.std.specs.Option.{option_map}
use Rattle.kinds.specs.Names.{is_same_name}
use Rattle.kinds.specs.Refusals.{number_of}
use Rattle.kinds.specs.declared.pool.PoolKind.{PoolKind}
use Rattle.kinds.specs.declared.pool.PoolKind.TheVariants.{Primary, Copy}
use Rattle.kinds.specs.declared.refusal.Refusal.{Refusal}
use Rattle.kinds.specs.declared.refusal.Refusal.TheVariants as refused
use Rattle.entries.specs.declared.change.Change.{Change}
use Rattle.inventory_answers.specs.declared.lines.PoolLine.{PoolLine}
use Rattle.inventory_answers.specs.declared.lines.VolumeLine.{VolumeLine}
use Rattle.inventory_answers.specs.declared.query.Query.TheVariants as query
use Rattle.inventory_answers.specs.declared.reply.Answer.{Answer}
use Rattle.inventory_answers.specs.declared.reply.Rows.TheVariants as rows
use Rattle.inventory_answers.specs.Stores.{pool_lines, volume_lines}
use Rattle.inventory_work.specs.declared.lines.CopyLine.{CopyLine}
use Rattle.inventory_rows.specs.version_groups.declared.copies.CopyRow.{CopyRow}
use Rattle.inventory_rows.specs.Search.{lies_on}
use Rattle.space.specs.declared.aim.Aim.TheVariants as aim
use Rattle.steps.specs.Calls.{Then}
use Rattle.steps.specs.Events.{Deed, Event, event}
use Rattle.steps.specs.Events.Deed.{Ask}
use Rattle.steps.specs.Receipts.{made, receipts}
use Rattle.machine.specs.Fits.{Fits, History, Own, inv}
use Rattle.copy_attempts.specs.Outcomes.{IsOf, MetBy, may_leave}
use Rattle.steps.specs.Spent.{AreSettled}
use Rattle.copy_pools.specs.Backups.{kind_of}
use Rattle.copy_runs.specs.declared.wanted.Moved.{Moved}
use Rattle.copy_runs.specs.declared.wanted.Wanted.{Wanted}
use Rattle.copy_runs.specs.Ends.{AreAsking, AskedPools, IsEnding, IsStopped, IsUnheld, IsUnlisted, Unanswered, first_of, last_of}
use Rattle.copy_runs.specs.Returning.{AreValid, Holds, is_kept}
use Rattle.copy_runs.specs.Processes.{Completes}
use Rattle.copy_runs.specs.Runs.{HasFailed, IsEntryFor, LeavesNone, copies_in, failing_in, is_among}
use Rattle.copy_runs.specs.Tickets.{GotNoTicket}

-- ---- what is wanted

-- the pool to which a copy moves: its own, where none is named, or the one that is
abbrev pub into : (to from : ℕ) → ℕ
into to from = if to == 0 then from else to

-- the copy that is wanted in the place of one
abbrev pub moving : (to : ℕ) → CopyLine → Wanted
moving to line = record { object = line.object; aim = aim.Move line.pool line.placed (into to line.pool) false; size = line.size }

-- ---- what is asked

-- the copies on the volume were asked for
abbrev pub Listed : ℕ → List Event → List CopyLine → Type 0
Listed file events lines = (n : ℕ) × (answer : Answer) × (events ≡ event n (Ask (query.OnVolume file) (Ok answer)) ∷ []) × (answer.rows ≡ rows.OnVolume lines)

abbrev pub Lists : ℕ → List Event → Result (List CopyLine) Refusal → Type 0
Lists file events (Ok lines) = Listed file events lines
Lists file events (Err e) = IsUnlisted (query.OnVolume file) events e × AreAsking events

-- all volumes were asked for
abbrev pub AskedVolumes : List Event → List VolumeLine → Type 0
AskedVolumes events lines = (n : ℕ) × (answer : Answer) × (events ≡ event n (Ask (query.Volumes None None) (Ok answer)) ∷ []) × (answer.rows ≡ rows.Volumes lines)

abbrev pub AsksVolumes : List Event → Result (List VolumeLine) Refusal → Type 0
AsksVolumes events (Ok lines) = AskedVolumes events lines
AsksVolumes events (Err e) = Unanswered events e

-- the volume with this file number, where it is among these
abbrev pub volume_with : ℕ → List VolumeLine → Option VolumeLine
volume_with file lines = find (λ l. l.file == file) lines

-- the number of the pool with this name, and what it is for, where it is among these
abbrev pub pool_called : List ℕ → List PoolLine → Option (ℕ × PoolKind)
pool_called name lines = option_map (λ l. (l.number, l.kind)) (find (λ l. is_same_name l.name name) lines)

abbrev pub pool_if : List PoolLine → Option (List ℕ) → Option (ℕ × PoolKind)
pool_if pools None = None
pool_if pools (Some name) = pool_called name pools

-- those of the volume's pool, where it is among these
abbrev pub home_by : List PoolLine → VolumeLine → Option (ℕ × PoolKind)
home_by pools line = pool_if pools line.pool

abbrev pub home_if : List PoolLine → Option VolumeLine → Option (ℕ × PoolKind)
home_if pools None = None
home_if pools (Some line) = home_by pools line

-- those of the pool of the volume with this file number, where both are among these
abbrev pub home_of : ℕ → List VolumeLine → List PoolLine → Option (ℕ × PoolKind)
home_of file volumes pools = home_if pools (volume_with file volumes)

-- from one pool to another: both have to be primary
abbrev pub both_primary : PoolKind → Option PoolKind → Result (Unit {0}) Refusal
both_primary from None = Err refused.NotFound
both_primary Primary (Some Primary) = Ok tt
both_primary Copy (Some Primary) = Err refused.BadHierarchy
both_primary Primary (Some Copy) = Err refused.BadHierarchy
both_primary Copy (Some Copy) = Err refused.BadHierarchy

-- from this pool to that one
abbrev pub goes_from : (to : ℕ) → Option (ℕ × PoolKind) → List PoolLine → Result (Unit {0}) Refusal
goes_from to None pools = Err refused.NotFound
goes_from to (Some home) pools = if home.0 == to then Ok tt else both_primary home.1 (kind_of to pools)

-- Whether what lies on the volume may move to the pool: that is the volume's own, or both are primary ones.
abbrev pub goes : (file to : ℕ) → List VolumeLine → List PoolLine → Result (Unit {0}) Refusal
goes file to volumes pools = goes_from to (home_of file volumes pools) pools

-- the volumes and then the pools were asked for, and so it is by the answers
abbrev pub Told : (file to : ℕ) → List Event → Result (Unit {0}) Refusal → Type 0
Told file to events is = (volumes : List VolumeLine) × (pools : List PoolLine) × (goes file to volumes pools ≡ is) × Then (λ xs. AskedVolumes xs volumes) (λ ys. AskedPools ys pools) events

abbrev pub Checks : (file to : ℕ) → List Event → Result (Unit {0}) Refusal → Type 0
Checks file to events (Ok done) = Told file to events (Ok tt)
Checks file to events (Err e) = Unanswered events e ⊎ Told file to events (Err e)

-- where no pool is named, nothing is asked
abbrev pub Allows : (own : Bool) → (file to : ℕ) → List Event → Result (Unit {0}) Refusal → Type 0
Allows true file to events (Ok done) = events ≡ []
Allows true file to events (Err e) = ⊥
Allows false file to events result = Checks file to events result

-- The refusal is want of memory, or ends a process; or the volume isn't there; or it is how the questions for the volumes and the pools were answered.
abbrev pub IsRefused : (file to : ℕ) → List Event → Refusal → Type 0
IsRefused file to events e =
    IsUnlisted (query.OnVolume file) events e
    ⊎ (((to == 0) ≡ false) × (lines : List CopyLine) × Then (λ xs. Listed file xs lines) (λ ys. Told file to ys (Err e)) events)

abbrev pub Begins : (file to : ℕ) → List Event → Result (List Wanted) Refusal → Type 0
Begins file to events (Ok wanted) = (lines : List CopyLine) × (wanted ≡ map (moving to) lines) × Then (λ xs. Listed file xs lines) (λ ys. Allows (to == 0) file to ys (Ok tt)) events
Begins file to events (Err e) = IsRefused file to events e × AreAsking events

-- ---- the row

-- In every history of valid databases that the events fit: a copy that lies on the volume where it begins isn't there at the last step's number, as the same transaction placed it, or its
-- object is counted as failed.
abbrev pub IsMovedOff : (file : ℕ) → (failed : List ℕ) → List Event → Type 0
IsMovedOff file failed events =
    (w : History) (actor : ℕ) (a b : Own) → AreValid w → a.tickets ≡ [] → Fits w actor a events b
    → (object : ℕ) (copy : CopyRow) → Holds object copy (inv w (first_of events)) → lies_on file copy ≡ true
    → (is_among object failed ≡ true) ⊎ (is_kept object copy (inv w (last_of events)) ≡ false)

-- So it is whether what lies on the volume may move to the pool, by the volumes at one of the numbers, and the pools at this one or a later one.
abbrev pub GoesSo : (file to : ℕ) → List Event → Result (Unit {0}) Refusal → Type 0
GoesSo file to events is =
    (w : History) (actor : ℕ) (a b : Own) → Fits w actor a events b
    → (n : ℕ) × (m : ℕ) × (first_of events ≤ n) × (n ≤ m) × (m ≤ last_of events)
    × (goes file to (volume_lines None None (inv w n).stores) (pool_lines None (inv w m).stores) ≡ is)

-- where a pool is named, it is one to which that may move
abbrev pub IsAllowed : (own : Bool) → (file to : ℕ) → List Event → Type 0
IsAllowed true file to events = Unit {0}
IsAllowed false file to events = GoesSo file to events (Ok tt)

-- ---- the whole

-- one of the wanted moves
abbrev pub IsMove : (to : ℕ) → Wanted → Type 0
IsMove to x = (from : ℕ) × (placed : ℕ) × (x.aim ≡ aim.Move from placed (into to from) false)

-- it asks or forces, or makes an attempt for such a move that avoids the volume
abbrev pub IsMoving : (file to : ℕ) → Deed → Type 0
IsMoving file to d = IsEnding d ⊎ ((object : ℕ) × (from : ℕ) × (placed : ℕ) × IsOf object (aim.Move from placed (into to from) false) file d)

abbrev pub AreMoving : (file to : ℕ) → List Event → Type 0
AreMoving file to events = AllByRecursion (λ e. IsMoving file to e.deed) events

-- each failed object had an attempt for such a move that failed
abbrev pub HasFailedOff : (file to : ℕ) → List Event → (object : ℕ) → Type 0
HasFailedOff file to events object = (x : Wanted) × IsMove to x × HasFailed (x ∷ []) file events object

-- What it did where it answered counts: what it asked for told it which moves are wanted, and one attempt for each of these came behind it; the counts are those of the copies in its receipts, and of
-- objects that failed, which are no more than its steps that were so refused; the row; the pool that was named is one to which that may move; and no ticket is left.
pub record MovedOff (file to : ℕ) (events : List Event) (m : Moved) : Type 0 where
  pub failed : List ℕ
  pub wanted : List Wanted
  pub order : Then (λ xs. Begins file to xs (Ok wanted)) (λ ys. Completes wanted file ys (Ok m)) events
  pub moved : m.moved ≡ copies_in (receipts events)
  pub number : length failed ≡ m.failed
  pub risen : m.failed ≤ failing_in events
  pub each : AllByRecursion (HasFailedOff file to events) failed
  pub row : IsMovedOff file failed events
  pub allowed : IsAllowed (to == 0) file to events
  pub settled : AreSettled events
  pub none_left : LeavesNone events

-- Nothing but questions was asked, for the volumes and the pools among them, and so it is by the answers.
abbrev pub TellsSo : (file to : ℕ) → List Event → Result (Unit {0}) Refusal → Type 0
TellsSo file to events is =
    AreAsking events × (volumes : List VolumeLine) × (pools : List PoolLine) × (goes file to volumes pools ≡ is)
    × MetBy (λ d. (answer : Answer) × (d ≡ Ask (query.Volumes None None) (Ok answer)) × (answer.rows ≡ rows.Volumes volumes)) events
    × MetBy (λ d. (answer : Answer) × (d ≡ Ask (query.Pools None) (Ok answer)) × (answer.rows ≡ rows.Pools pools)) events

-- The volume isn't there; or the pool that was named isn't there, or is none to which that may move; or it wasn't there any more where a copy that was listed was to go there.
abbrev pub IsBarred : (file to : ℕ) → List Event → Refusal → Type 0
IsBarred file to events e =
    (((number_of e == 10) ≡ true) × MetBy (λ d. d ≡ Ask (query.OnVolume file) (Err e)) events × AreAsking events)
    ⊎ (((to == 0) ≡ false) × GoesSo file to events (Err e) × TellsSo file to events (Err e))
    ⊎ (((number_of e == 10) ≡ true) × ((object : ℕ) × (from : ℕ) × (placed : ℕ) × GotNoTicket object from placed (into to from) false file events e))

-- What it did where it was refused: the refusal is want of memory, or one that ends a process and that one of its steps met, or what is named isn't there or doesn't go together; it waits for no
-- transaction that a force would make durable; and no ticket is left, unless none can be given back.
pub record Stopped (file to : ℕ) (events : List Event) (e : Refusal) : Type 0 where
  pub cause : IsStopped events e ⊎ IsBarred file to events e
  pub unheld : IsUnheld events e
  pub settled : may_leave (Err e) ≡ false → AreSettled events
  pub none_left : may_leave (Err e) ≡ false → LeavesNone events

abbrev pub Came : (file to : ℕ) → List Event → Result Moved Refusal → Type 0
Came file to events (Ok m) = MovedOff file to events m
Came file to events (Err e) = Stopped file to events e

-- the transaction of the step stands in the history as the actor's, and moves one copy
abbrev pub IsEnteredOff : (to : ℕ) → History → (actor : ℕ) → Event → Type 0
IsEnteredOff to w actor e =
    (object : ℕ) × (from : ℕ) × (placed : ℕ) × (c : Change) × IsEntryFor object (aim.Move from placed (into to from) false) c
    × (slice_get w.journal (e.n - w.base.number) ≡ Some (record { actor = actor; change = c }))

-- each transaction that joined by these steps does, in whatever history they fit
abbrev pub EntersOff : (to : ℕ) → List Event → Type 0
EntersOff to events = (w : History) (actor : ℕ) (a b : Own) → a.tickets ≡ [] → Fits w actor a events b → AllByRecursion (IsEnteredOff to w actor) (made events)

-- What it did, that its steps were no others, and that each transaction which joined by them moves one copy.
pub record DataMove (file to : ℕ) (events : List Event) (result : Result Moved Refusal) : Type 0 where
  pub came : Came file to events result
  pub only : AreMoving file to events
  pub entries : EntersOff to events
