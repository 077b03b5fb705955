-- What the deletion of a volume did.
use Rattle.std.specs.Prelude.{◌≡◌, ◌⊎◌, ℕ, ◌≤◌, ◌==◌, zero, suc, Bool, true, false, List, [], ◌∷◌, map, if◌then◌else◌, Option, None, Some, Result, Ok, Err}
use Rattle.std.specs.List.{AllByRecursion, find}
use Rattle.std.specs.Option.{option_map}
use Rattle.kinds.specs.Refusals.{number_of}
use Rattle.kinds.specs.declared.change.PoolChange.TheVariants as store
use Rattle.kinds.specs.declared.change.Verb.TheVariants as verb
use Rattle.kinds.specs.declared.pool.PoolKind.{PoolKind}
use Rattle.kinds.specs.declared.pool.PoolKind.TheVariants.{Primary, Copy}
use Rattle.kinds.specs.declared.refusal.Holder.{Holder}
use Rattle.kinds.specs.declared.refusal.Refusal.{Refusal}
use Rattle.kinds.specs.declared.refusal.Refusal.TheVariants as refused
use Rattle.entries.specs.declared.change.Change.TheVariants as change
use Rattle.inventory_answers.specs.declared.lines.PoolLine.{PoolLine}
use Rattle.inventory_answers.specs.declared.lines.VolumeLine.{VolumeLine}
use Rattle.inventory_answers.specs.declared.query.Query.{Query}
use Rattle.inventory_answers.specs.declared.query.Query.TheVariants as query
use Rattle.inventory_answers.specs.declared.reply.Answer.{Answer}
use Rattle.inventory_answers.specs.declared.reply.Rows.TheVariants as rows
use Rattle.inventory_work.specs.declared.lines.CopyLine.{CopyLine}
use Rattle.inventory_work.specs.Copies.{has_volume}
use Rattle.inventory_rows.specs.Search.{segments_on}
use Rattle.inventory_rules.specs.Valid.{is_valid}
use Rattle.steps.specs.declared.asked.Asked.{Asked}
use Rattle.steps.specs.declared.asked.Asked.TheVariants as asked
use Rattle.steps.specs.Calls.{Then}
use Rattle.steps.specs.Events.{Deed, Event, event}
use Rattle.steps.specs.Events.Deed.{Ask, Commit, Force}
use Rattle.steps.specs.Receipts.{receipts}
use Rattle.machine.specs.Fits.{Fits, History, Own, inv, last}
use Rattle.copy_attempts.specs.Attempts.{Awaits, stopping}
use Rattle.copy_attempts.specs.Outcomes.{MetBy}
use Rattle.copy_runs.specs.Ends.{AreAsking, AskedPools, IsEnding, IsStopped, IsUnlisted, first_of, last_of}
use Rattle.deletions.specs.declared.copies.Removed.{Removed}
use Rattle.deletions.specs.declared.row.Row.{Row}
use Rattle.deletions.specs.declared.row.Went.{Went}
use Rattle.deletions.specs.declared.row.Went.TheVariants as came
use Rattle.deletions.specs.Discarding.{Handled, TriesBy, discards}
use Rattle.deletions.specs.Dropping.{Emptied, IsTaking, doomed, drops, for_volume}
use Rattle.deletions.specs.Filespaces.{Answered, IsAnswer, IsMissing, is_kept_by, unremoved}

-- ---- what is asked

-- what the deletion of a volume names
abbrev pub row_of : VolumeLine → Row
row_of line = record { name = line.name; capacity = line.capacity; access = line.access }

-- the volume with this file number, where it is among these
abbrev pub row_with : ℕ → List VolumeLine → Option VolumeLine
row_with file lines = find (λ l. l.file == file) lines

abbrev pub row_found : Option VolumeLine → Result Row Refusal
row_found None = Err refused.NotFound
row_found (Some line) = Ok (row_of line)

abbrev pub row_in : ℕ → List VolumeLine → Result Row Refusal
row_in file lines = row_found (row_with file lines)

-- ---- transactions

-- the volume's own transaction
abbrev pub deleting : Row → ℕ → Asked
deleting row file = asked.Plain (change.Pool (store.Volume verb.Delete row.name 0 file row.capacity row.access))

-- ---- what refusals lead to

-- who is waited for
abbrev pub holder_of : Refusal → Option Holder
holder_of (refused.Busy h) = Some h
holder_of _ = None

abbrev pub held_or_kept : Refusal → Option Holder → Result Went Refusal
held_or_kept e (Some h) = Ok (came.Held h)
held_or_kept e None = Err (unremoved e)

-- what the volume's own transaction came to
abbrev pub outcome_of_row : Result ℕ Refusal → Result Went Refusal
outcome_of_row (Ok number) = Ok came.Gone
outcome_of_row (Err e) = held_or_kept e (holder_of e)

-- what the question for a volume came to that has gone
abbrev pub gone_by : Refusal → Result (Unit {0}) Refusal
gone_by e = if number_of e == 10 then Ok tt else Err (stopping e)

-- ---- causes

-- a question was so refused; or the volume isn't among those that were answered
abbrev pub IsNotThere : ℕ → Refusal → Deed → Type 0
IsNotThere file e d =
    ((q : Query) × (d ≡ Ask q (Err e)))
    ⊎ ((answer : Answer) × (lines : List VolumeLine) × (d ≡ Ask (query.Volumes None None) (Ok answer)) × (answer.rows ≡ rows.Volumes lines) × (row_in file lines ≡ Err e))

-- The refusal is want of memory, or one that ends a process and that one of its steps met; or the volume isn't there; or it is that of the volume's own transaction: a copy lies on the volume, or
-- it isn't there any more.
abbrev pub IsCaused : ℕ → List Event → Refusal → Type 0
IsCaused file events e =
    IsStopped events e
    ⊎ (((number_of e == 10) ≡ true) × MetBy (IsNotThere file e) events)
    ⊎ ((is_kept_by e ≡ true) × MetBy (λ d. (row : Row) × (d ≡ Commit (deleting row file) [] (Err e))) events)

-- ---- steps

-- it asks, forces, or deletes the volume's row
abbrev pub IsPlain : ℕ → Deed → Type 0
IsPlain file d = IsEnding d ⊎ ((row : Row) × (answer : Result ℕ Refusal) × (d ≡ Commit (deleting row file) [] answer))

-- or with `discard` it takes away what lies on the volume
abbrev pub IsDeleting : (discard : Bool) → ℕ → Deed → Type 0
IsDeleting false file d = IsPlain file d
IsDeleting true file d = IsPlain file d ⊎ IsTaking file d

-- no others
abbrev pub AreDeleting : (discard : Bool) → ℕ → List Event → Type 0
AreDeleting discard file events = AllByRecursion (λ e. IsDeleting discard file e.deed) events

-- these steps ended with this refusal: it ends a process, or this holds of them
pub record Stops (discard : Bool) (file : ℕ) (Else : List Event → Type 0) (events : List Event) (e : Refusal) : Type 0 where
  pub cause : IsCaused file events e
  pub only : AreDeleting discard file events
  pub place : IsStopped events e ⊎ Else events

-- of none
abbrev pub Never : List Event → Type 0
Never events = ⊥

-- the question for the volumes was so refused; or this one isn't among those that were answered
abbrev pub IsUnfound : (file : ℕ) → Refusal → Deed → Type 0
IsUnfound file e d =
    (d ≡ Ask (query.Volumes None None) (Err e))
    ⊎ ((answer : Answer) × (lines : List VolumeLine) × (d ≡ Ask (query.Volumes None None) (Ok answer)) × (answer.rows ≡ rows.Volumes lines) × (row_in file lines ≡ Err e))

-- the volume wasn't found
abbrev pub HasNotFound : (file : ℕ) → Refusal → List Event → Type 0
HasNotFound file e events = IsMissing (IsUnfound file e) events e

-- the question for what lies on it was so refused
abbrev pub HasNotListed : (file : ℕ) → Refusal → List Event → Type 0
HasNotListed file e events = IsMissing (IsAnswer (query.OnVolume file) e) events e

-- ---- questions

abbrev pub Asks : Query → List Event → Result Answer Refusal → Type 0
Asks q events (Ok answer) = Answered q events answer
Asks q events (Err e) = IsUnlisted q events e × AreAsking events

-- the volumes were asked for, and the one with this file number has this row
abbrev pub Found : ℕ → List Event → Row → Type 0
Found file events row =
    (answer : Answer) × (lines : List VolumeLine) × Answered (query.Volumes None None) events answer × (answer.rows ≡ rows.Volumes lines) × (row_in file lines ≡ Ok row)

abbrev pub Finds : ℕ → List Event → Result Row Refusal → Type 0
Finds file events (Ok row) = Found file events row
Finds file events (Err e) = Stops false file (HasNotFound file e) events e

-- the copies on the volume were asked for
abbrev pub Listed : ℕ → List Event → List CopyLine → Type 0
Listed file events lines = (answer : Answer) × Answered (query.OnVolume file) events answer × (answer.rows ≡ rows.OnVolume lines)

abbrev pub Lists : ℕ → List Event → Result (List CopyLine) Refusal → Type 0
Lists file events (Ok lines) = Listed file events lines
Lists file events (Err e) = Stops false file (HasNotListed file e) events e

-- ---- what lies on the volume

-- the number of the pool of these copies
abbrev pub pool_of : List CopyLine → Option ℕ
pool_of [] = None
pool_of (line ∷ lines) = Some line.pool

-- what a pool is for, where it is among these
abbrev pub kind_of : ℕ → List PoolLine → Option PoolKind
kind_of number lines = option_map (λ l. l.kind) (find (λ l. l.number == number) lines)

abbrev pub is_copy_kind : Option PoolKind → Bool
is_copy_kind (Some Copy) = true
is_copy_kind (Some Primary) = false
is_copy_kind None = false

-- the pool is among these, and a copy pool
abbrev pub is_copy_pool : ℕ → List PoolLine → Bool
is_copy_pool number lines = is_copy_kind (kind_of number lines)

-- of a copy pool's volume they were dropped, and of another their objects were discarded
abbrev pub Taken : (of_copy_pool : Bool) → ℕ → List CopyLine → List Event → Removed → Type 0
Taken true file lines events m = Emptied false file lines events m
Taken false file lines events m = Handled (for_volume file) (map doomed lines) events m.discarded × (m.dropped ≡ 0)

abbrev pub Takes : (of_copy_pool : Bool) → ℕ → List CopyLine → List Event → Result Removed Refusal → Type 0
Takes of_copy_pool file lines events (Ok m) = Taken of_copy_pool file lines events m
Takes of_copy_pool file lines events (Err e) = Stops true file Never events e

-- by what the pool is for, as the question for the pools was answered
abbrev pub TakenFrom : (pool file : ℕ) → List CopyLine → List Event → Removed → Type 0
TakenFrom pool file lines events m =
    (pools : List PoolLine) × Then (λ xs. AskedPools xs pools) (λ ys. Taken (is_copy_pool pool pools) file lines ys m) events

abbrev pub TakesFrom : (pool file : ℕ) → List CopyLine → List Event → Result Removed Refusal → Type 0
TakesFrom pool file lines events (Ok m) = TakenFrom pool file lines events m
TakesFrom pool file lines events (Err e) = Stops true file Never events e

-- nothing went
abbrev pub nothing : Removed
nothing = record { discarded = 0; dropped = 0 }

-- where there are any
abbrev pub TakenOf : Option ℕ → ℕ → List CopyLine → List Event → Removed → Type 0
TakenOf None file lines events m = (events ≡ []) × (m ≡ nothing)
TakenOf (Some pool) file lines events m = TakenFrom pool file lines events m

abbrev pub TakesOf : Option ℕ → ℕ → List CopyLine → List Event → Result Removed Refusal → Type 0
TakesOf pool file lines events (Ok m) = TakenOf pool file lines events m
TakesOf pool file lines events (Err e) = Stops true file Never events e

-- with `discard` the copies were asked for and taken away
abbrev pub Cleared : (discard : Bool) → ℕ → List Event → Removed → Type 0
Cleared false file events m = (events ≡ []) × (m ≡ nothing)
Cleared true file events m = (lines : List CopyLine) × Then (λ xs. Listed file xs lines) (λ ys. TakenOf (pool_of lines) file lines ys m) events

abbrev pub Clears : (discard : Bool) → ℕ → List Event → Result Removed Refusal → Type 0
Clears discard file events (Ok m) = Cleared discard file events m
Clears discard file events (Err e) = Stops discard file (HasNotListed file e) events e

-- ---- the row

abbrev pub TriesRow : Asked → List Event → Result Went Refusal → Type 0
TriesRow asked events result = TriesBy outcome_of_row asked events result

-- the transaction found something held
abbrev pub FoundHeld : Asked → Holder → List Event → Type 0
FoundHeld asked h events = (n : ℕ) × (events ≡ event n (Commit asked [] (Err (refused.Busy h))) ∷ [])

-- so many times it found something held, and each time the wait was over
abbrev pub Waited : Asked → ℕ → List Event → Type 0
Waited asked zero events = events ≡ []
Waited asked (suc number) events = Then (λ xs. Waited asked number xs) (λ ys. (h : Holder) × Then (λ us. FoundHeld asked h us) (λ vs. Awaits h vs (Ok tt)) ys) events

-- and then the transaction was made
abbrev pub RowGone : Asked → List Event → Type 0
RowGone asked events =
    (number : ℕ) × Then (λ xs. Waited asked number xs) (λ ys. (n : ℕ) × (joined : ℕ) × (ys ≡ event n (Commit asked [] (Ok joined)) ∷ [])) events

-- it forces, or tries the transaction
abbrev pub IsRowStep : Asked → Deed → Type 0
IsRowStep asked d = IsEnding d ⊎ ((answer : Result ℕ Refusal) × (d ≡ Commit asked [] answer))

-- where it was tried last it was so refused
abbrev pub IsRefusedLast : Asked → Refusal → List Event → Type 0
IsRefusedLast asked e events = (number : ℕ) × Then (λ xs. Waited asked number xs) (λ ys. (n : ℕ) × (ys ≡ event n (Commit asked [] (Err e)) ∷ [])) events

-- it was refused, or a wait was
pub record RowKept (asked : Asked) (events : List Event) (e : Refusal) : Type 0 where
  pub cause : IsStopped events e ⊎ ((is_kept_by e ≡ true) × MetBy (λ d. d ≡ Commit asked [] (Err e)) events)
  pub only : AllByRecursion (λ x. IsRowStep asked x.deed) events
  pub place : IsStopped events e ⊎ IsRefusedLast asked e events

abbrev pub RemovesRow : Asked → List Event → Result (Unit {0}) Refusal → Type 0
RemovesRow asked events (Ok done) = RowGone asked events
RemovesRow asked events (Err e) = RowKept asked events e

-- ---- the end

-- the volume was asked for, and isn't there
abbrev pub IsAbsent : ℕ → List Event → Type 0
IsAbsent file events = (n : ℕ) × (e : Refusal) × ((number_of e == 10) ≡ true) × (events ≡ event n (Ask (query.OnVolume file) (Err e)) ∷ [])

abbrev pub ChecksGone : ℕ → List Event → Result (Unit {0}) Refusal → Type 0
ChecksGone file events (Ok done) = IsAbsent file events
ChecksGone file events (Err e) = IsStopped events e × AreAsking events

-- all was made durable, and then the volume was asked for
abbrev pub Ended : ℕ → List Event → Type 0
Ended file events = (n : ℕ) × (number : ℕ) × Then (λ xs. xs ≡ event n (Force (Ok number)) ∷ []) (λ ys. IsAbsent file ys) events

abbrev pub Ends : ℕ → List Event → Result (Unit {0}) Refusal → Type 0
Ends file events (Ok done) = Ended file events
Ends file events (Err e) = Stops false file Never events e

-- the row went, and then all was made durable and the volume was asked for
abbrev pub RemovedRow : Row → ℕ → List Event → Type 0
RemovedRow row file events = Then (λ xs. RowGone (deleting row file) xs) (λ ys. Ended file ys) events

abbrev pub Removes : Row → ℕ → List Event → Result (Unit {0}) Refusal → Type 0
Removes row file events (Ok done) = RemovedRow row file events
Removes row file events (Err e) = Stops false file (IsRefusedLast (deleting row file) e) events e

-- both
abbrev pub EmptiedRow : (discard : Bool) → Row → ℕ → List Event → Removed → Type 0
EmptiedRow discard row file events m = Then (λ xs. Cleared discard file xs m) (λ ys. RemovedRow row file ys) events

-- what lies on it couldn't be listed; or it was taken away, and then its own transaction was so refused
abbrev pub HasNotGone : (discard : Bool) → Row → ℕ → Refusal → List Event → Type 0
HasNotGone discard row file e events =
    HasNotListed file e events ⊎ ((m : Removed) × Then (λ xs. Cleared discard file xs m) (λ ys. IsRefusedLast (deleting row file) e ys) events)

abbrev pub Empties : (discard : Bool) → Row → ℕ → List Event → Result Removed Refusal → Type 0
Empties discard row file events (Ok m) = EmptiedRow discard row file events m
Empties discard row file events (Err e) = Stops discard file (HasNotGone discard row file e) events e

-- ---- the table's row

-- In every history that the events fit, of valid databases, the volume is there at the first event's number; at the last one's it isn't, and no copy lies on it.
abbrev pub IsGone : ℕ → List Event → Type 0
IsGone file events =
    (w : History) (actor : ℕ) (a b : Own) → ((n : ℕ) → w.base.number ≤ n → n ≤ last w → is_valid (inv w n) ≡ true) → Fits w actor a events b
    → (has_volume file (inv w (first_of events)) ≡ true) × (has_volume file (inv w (last_of events)) ≡ false) × (segments_on file (inv w (last_of events)) ≡ [])

-- without `discard` the volume's own transaction is its only receipt
abbrev pub HasOneReceipt : (discard : Bool) → ℕ → List Event → Type 0
HasOneReceipt true file events = Unit {0}
HasOneReceipt false file events = (n : ℕ) × (row : Row) × (number : ℕ) × (receipts events ≡ event n (Commit (deleting row file) [] (Ok number)) ∷ [])

-- ---- the whole

-- the volume was found, with `discard` what lies on it was taken away, its row went, all was made durable, and it was asked for once more
abbrev pub IsInOrder : (discard : Bool) → ℕ → List Event → Removed → Type 0
IsInOrder discard file events m = (row : Row) × Then (λ xs. Found file xs row) (λ ys. EmptiedRow discard row file ys m) events

-- What it did where it answered counts: they are those of the objects and the copies in its receipts; its steps came in their order; the volume is gone; and without `discard` it has one receipt.
pub record Deleted (discard : Bool) (file : ℕ) (events : List Event) (m : Removed) : Type 0 where
  pub discarded : m.discarded ≡ discards (receipts events)
  pub dropped : m.dropped ≡ drops (receipts events)
  pub order : IsInOrder discard file events m
  pub row : IsGone file events
  pub receipt : HasOneReceipt discard file events

abbrev pub Came : (discard : Bool) → ℕ → List Event → Result Removed Refusal → Type 0
Came discard file events (Ok m) = Deleted discard file events m
Came discard file events (Err e) = IsCaused file events e

-- Where it was refused: the refusal ends a process; or the volume wasn't found; or it was, and then what lies on it couldn't be listed, or, behind all that comes before it, its own transaction was so refused.
abbrev pub IsInPlace : (discard : Bool) → (file : ℕ) → List Event → Refusal → Type 0
IsInPlace discard file events e = IsStopped events e ⊎ HasNotFound file e events ⊎ ((row : Row) × Then (λ xs. Found file xs row) (λ ys. HasNotGone discard row file e ys) events)

abbrev pub HasPlace : (discard : Bool) → (file : ℕ) → List Event → Result Removed Refusal → Type 0
HasPlace discard file events (Ok m) = Unit {0}
HasPlace discard file events (Err e) = IsInPlace discard file events e

-- What it did, that it asked, forced and deleted the volume's row, and with `discard` discarded objects and dropped copies for it, and no more, and where it was refused.
pub record VolumeDeletion (discard : Bool) (file : ℕ) (events : List Event) (result : Result Removed Refusal) : Type 0 where
  pub came : Came discard file events result
  pub only : AreDeleting discard file events
  pub place : HasPlace discard file events result
