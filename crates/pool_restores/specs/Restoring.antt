-- What the restoring of a pool's lost copies, and of a volume's, did.
use Rattle.std.specs.Prelude.{◌≡◌, ◌⊎◌, ◌≤◌, ℕ, ◌-◌, ◌==◌, Bool, true, false, List, [], ◌∷◌, length, Option, None, Some, Result, Ok, Err}
use Rattle.std.specs.List.{AllByRecursion, list_any, slice_get}
use Rattle.kinds.specs.Refusals.{number_of}
use Rattle.kinds.specs.declared.refusal.Refusal.{Refusal}
use Rattle.kinds.specs.declared.refusal.Refusal.TheVariants as refused
use Rattle.entries.specs.declared.change.Change.{Change}
use Rattle.inventory_answers.specs.declared.lines.PoolLine.{PoolLine}
use Rattle.inventory_answers.specs.declared.lines.VolumeLine.{VolumeLine}
use Rattle.inventory_answers.specs.declared.query.Query.TheVariants as query
use Rattle.inventory_answers.specs.declared.reply.Answer.{Answer}
use Rattle.inventory_answers.specs.declared.reply.Rows.TheVariants as rows
use Rattle.inventory_answers.specs.Stores.{pool_lines, volume_lines}
use Rattle.inventory_rows.specs.version_groups.declared.copies.CopyRow.{CopyRow}
use Rattle.inventory_rows.specs.Search.{lies_on}
use Rattle.inventory_rows.specs.State.{Inv}
use Rattle.steps.specs.declared.asked.Asked.TheVariants as asked
use Rattle.steps.specs.Calls.{Then}
use Rattle.steps.specs.Events.{Deed, Event, has_number}
use Rattle.steps.specs.Events.Deed.{Ask, Commit, OpenCopy}
use Rattle.steps.specs.Receipts.{made, receipts}
use Rattle.machine.specs.Fits.{Fits, History, Own, inv}
use Rattle.copy_attempts.specs.Outcomes.{IsOf, Met, MetBy, may_leave}
use Rattle.steps.specs.Spent.{AreSettled}
use Rattle.copy_runs.specs.declared.wanted.Moved.{Moved}
use Rattle.copy_runs.specs.declared.wanted.Wanted.{Wanted}
use Rattle.copy_runs.specs.Ends.{AreAsking, AskedPools, IsEnding, IsStopped, IsUnheld, Unanswered, first_of, last_of}
use Rattle.copy_runs.specs.Processes.{Completes}
use Rattle.copy_runs.specs.Returning.{AreValid, Holds, is_kept}
use Rattle.copy_runs.specs.Runs.{HasFailed, IsEntryFor, LeavesNone, copies_in, failing_in, is_among}
use Rattle.copy_runs.specs.Tickets.{GotNoTicket}
use Rattle.sessions.specs.Changing.{Changing}
use Rattle.pool_restores.specs.Listing.{AskedVolumes, Collected, IsUncollected, aim_of, destroying_of, destroyed_of, is_there}

-- ---- one of its moves

-- a copy goes into its own pool again, or to the pools behind it
abbrev pub IsRestoring : Wanted → Type 0
IsRestoring x = (pool : ℕ) × (placed : ℕ) × (x.aim ≡ aim_of pool placed)

-- it asks or forces, or makes an attempt for such a move
abbrev pub IsRestore : Deed → Type 0
IsRestore d = IsEnding d ⊎ ((object : ℕ) × (pool : ℕ) × (placed : ℕ) × IsOf object (aim_of pool placed) 0 d)

-- each failed object had an attempt for such a move that failed
abbrev pub HasFailedSo : List Event → (object : ℕ) → Type 0
HasFailedSo events object = (x : Wanted) × IsRestoring x × HasFailed (x ∷ []) 0 events object

-- the transaction of the step stands in the history as the actor's, and moves one copy
abbrev pub IsEnteredSo : History → (actor : ℕ) → Event → Type 0
IsEnteredSo w actor e =
    (object : ℕ) × (pool : ℕ) × (placed : ℕ) × (c : Change) × IsEntryFor object (aim_of pool placed) c
    × (slice_get w.journal (e.n - w.base.number) ≡ Some (record { actor = actor; change = c }))

-- ---- counts

-- Of whichever of its copies: the counts are those of the copies in its receipts, and of objects that failed, which are no more than its steps that were so refused; and no ticket is left.
pub record Counted (failed : List ℕ) (events : List Event) (m : Moved) : Type 0 where
  pub moved : m.moved ≡ copies_in (receipts events)
  pub number : length failed ≡ m.failed
  pub risen : m.failed ≤ failing_in events
  pub each : AllByRecursion (HasFailedSo events) failed
  pub settled : AreSettled events
  pub none_left : LeavesNone events

-- the pool wasn't there to which a copy that was listed was to go
abbrev pub IsAimless : List Event → Refusal → Type 0
IsAimless events e = ((number_of e == 10) ≡ true) × ((object : ℕ) × (pool : ℕ) × (placed : ℕ) × GotNoTicket object pool placed pool true 0 events e)

-- ---- a pool

-- the copy has a segment on a volume on which what it held is lost
abbrev pub is_lost : CopyRow → Inv → Bool
is_lost copy v = list_any (λ file. lies_on file copy) (destroyed_of (volume_lines None None v.stores))

-- In every history of valid databases that the events fit: a copy in the pool that lies on such a volume where it begins isn't there at the last step's number, as the same transaction placed it, or
-- its object is counted as failed.
abbrev pub IsPoolRestored : (pool : ℕ) → (failed : List ℕ) → List Event → Type 0
IsPoolRestored pool failed events =
    (w : History) (actor : ℕ) (a b : Own) → AreValid w → a.tickets ≡ [] → Fits w actor a events b
    → (object : ℕ) (copy : CopyRow) → Holds object copy (inv w (first_of events)) → copy.pool ≡ pool → is_lost copy (inv w (first_of events)) ≡ true
    → (is_among object failed ≡ true) ⊎ (is_kept object copy (inv w (last_of events)) ≡ false)

-- the pools were asked for, and the pool is among them or not
abbrev pub ToldThere : (pool : ℕ) → List Event → Bool → Type 0
ToldThere pool events is = (lines : List PoolLine) × AskedPools events lines × (is_there pool lines ≡ is)

abbrev pub ChecksThere : (pool : ℕ) → List Event → Result (Unit {0}) Refusal → Type 0
ChecksThere pool events (Ok done) = ToldThere pool events true
ChecksThere pool events (Err e) = Unanswered events e ⊎ ((e ≡ refused.NotFound) × ToldThere pool events false)

-- by the pools at one of the numbers that its actor's steps reach the pool is there, or it isn't
abbrev pub IsThereSo : (pool : ℕ) → List Event → Bool → Type 0
IsThereSo pool events is =
    (w : History) (actor : ℕ) (a b : Own) → Fits w actor a events b → (n : ℕ) × (a.reached ≤ n) × (n ≤ b.reached) × (is_there pool (pool_lines None (inv w n).stores) ≡ is)

-- The volumes were asked for, then the pools, and then, volume after volume, the copies on those on which what they held is lost; with those in the pool these are wanted.
abbrev pub BegunPool : (pool : ℕ) → List Wanted → List Event → Type 0
BegunPool pool wanted events =
    (volumes : List VolumeLine)
    × Then (λ xs. AskedVolumes xs volumes) (λ ys. Then (λ us. ToldThere pool us true) (λ vs. Collected (Some pool) (destroyed_of volumes) [] wanted vs) ys) events

-- nothing but questions was asked, for the pools among them, and by the answer the pool isn't there
abbrev pub TellsGone : (pool : ℕ) → List Event → Type 0
TellsGone pool events =
    AreAsking events
    × MetBy (λ d. (answer : Answer) × (lines : List PoolLine) × (d ≡ Ask (query.Pools None) (Ok answer)) × (answer.rows ≡ rows.Pools lines) × (is_there pool lines ≡ false)) events

-- nothing but questions was asked, for the volumes among them, and the one for the copies on a volume on which by the answer what it held is lost was refused
abbrev pub IsLostUnlisted : List Event → Refusal → Type 0
IsLostUnlisted events e =
    (volumes : List VolumeLine) × IsUncollected (destroyed_of volumes) events e × AreAsking events
    × MetBy (λ d. (answer : Answer) × (d ≡ Ask (query.Volumes None None) (Ok answer)) × (answer.rows ≡ rows.Volumes volumes)) events

abbrev pub IsPoolBarred : (pool : ℕ) → List Event → Refusal → Type 0
IsPoolBarred pool events e = ((e ≡ refused.NotFound) × IsThereSo pool events false × TellsGone pool events) ⊎ IsLostUnlisted events e ⊎ IsAimless events e

abbrev pub BeginsPool : (pool : ℕ) → List Event → Result (List Wanted) Refusal → Type 0
BeginsPool pool events (Ok wanted) = BegunPool pool wanted events
BeginsPool pool events (Err e) = (IsStopped events e ⊎ IsPoolBarred pool events e) × AreAsking events

-- What it did where it answered counts: what it asked for told it which copies are wanted, and one attempt for each of these came behind it; the counts; the row; and the pool was there.
pub record PoolRestored (pool : ℕ) (events : List Event) (m : Moved) : Type 0 where
  pub failed : List ℕ
  pub wanted : List Wanted
  pub order : Then (λ xs. BegunPool pool wanted xs) (λ ys. Completes wanted 0 ys (Ok m)) events
  pub counts : Counted failed events m
  pub row : IsPoolRestored pool failed events
  pub there : IsThereSo pool events true

-- What it did where it was refused: for want of memory, or with a refusal that ends a process and that one of its steps met; or the pool isn't there, or a volume wasn't when its copies were asked for,
-- or a pool to which one was to go; it waits for no transaction that a force would make durable; and no ticket is left, unless none can be given back.
pub record PoolStopped (pool : ℕ) (events : List Event) (e : Refusal) : Type 0 where
  pub cause : IsStopped events e ⊎ IsPoolBarred pool events e
  pub unheld : IsUnheld events e
  pub settled : may_leave (Err e) ≡ false → AreSettled events
  pub none_left : may_leave (Err e) ≡ false → LeavesNone events

abbrev pub PoolCame : (pool : ℕ) → List Event → Result Moved Refusal → Type 0
PoolCame pool events (Ok m) = PoolRestored pool events m
PoolCame pool events (Err e) = PoolStopped pool events e

-- What it did, that its steps were no others, and that each transaction which joined by them moves one copy.
pub record PoolRestore (pool : ℕ) (events : List Event) (result : Result Moved Refusal) : Type 0 where
  pub came : PoolCame pool events result
  pub only : AllByRecursion (λ e. IsRestore e.deed) events
  pub entries : (w : History) (actor : ℕ) (a b : Own) → a.tickets ≡ [] → Fits w actor a events b → AllByRecursion (IsEnteredSo w actor) (made events)
