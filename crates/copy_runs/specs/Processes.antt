-- What a process did that asks for objects, makes a copy of each, and ends.
use Rattle.std.specs.Prelude.{◌≡◌, ◌⊎◌, ◌≤◌, ℕ, true, false, List, [], length, Result, Ok, Err}
use Rattle.std.specs.List.{AllByRecursion}
use Rattle.kinds.specs.declared.refusal.Refusal.{Refusal}
use Rattle.steps.specs.Calls.{Then}
use Rattle.steps.specs.Events.{Deed, Event}
use Rattle.steps.specs.Receipts.{receipts}
use Rattle.machine.specs.Fits.{Fits, History, Own}
use Rattle.copy_attempts.specs.Outcomes.{may_leave}
use Rattle.steps.specs.Spent.{AreSettled}
use Rattle.copy_runs.specs.declared.wanted.Moved.{Moved}
use Rattle.copy_runs.specs.declared.wanted.Wanted.{Wanted}
use Rattle.copy_runs.specs.Ends.{Finished, Finishes, IsEnding, IsStopped, IsUnheld, first_of, last_of}
use Rattle.copy_runs.specs.Runs.{HasFailed, IsCausedByOne, IsOfOne, LeavesNone, Run, copies_in, failing_in, is_among}
use Rattle.copy_runs.specs.Wanting.{IsIn, IsPast, IsWantedAllAlong}

-- The copies were made, and all was made durable; or the run ended with a refusal, or its end did.
abbrev pub Completes : List Wanted → (avoid : ℕ) → List Event → Result Moved Refusal → Type 0
Completes wanted avoid events (Ok m) = Then (λ xs. Run wanted avoid xs (Ok m)) Finished events
Completes wanted avoid events (Err e) =
    Run wanted avoid events (Err e)
    ⊎ ((m : Moved) × Then (λ xs. Run wanted avoid xs (Ok m)) (λ ys. Finishes ys (Err e)) events)

-- A copy that is wanted at each number from the first event's to the last one's is of an object that is counted as failed.
abbrev pub IsDoneAllAlong : List Wanted → (failed : List ℕ) → List Event → Type 0
IsDoneAllAlong wanted failed events =
    (w : History) (actor : ℕ) (a b : Own) → a.tickets ≡ [] → Fits w actor a events b
    → (x : Wanted) → IsIn x wanted → IsPast (first_of events) x.aim → IsWantedAllAlong w (first_of events) (last_of events) x.aim x.object → is_among x.object failed ≡ true

-- What a process did that asked for these, made their copies and answered its counts: it counts the copies that are in its receipts; its failed objects are no more than its steps that were so
-- refused, each with an attempt of its own; what is still wanted is counted as failed; and no ticket is left.
pub record Process (wanted : List Wanted) (avoid : ℕ) (events : List Event) (m : Moved) : Type 0 where
  pub failed : List ℕ
  pub moved : m.moved ≡ copies_in (receipts events)
  pub number : length failed ≡ m.failed
  pub risen : m.failed ≤ failing_in events
  pub each : AllByRecursion (HasFailed wanted avoid events) failed
  pub done : IsDoneAllAlong wanted failed events
  pub settled : AreSettled events
  pub none_left : LeavesNone events

-- what a process did that ended with a refusal: it has its cause, waits for no transaction that a force would make durable, and no ticket is left, unless none can be given back
pub record Ended (wanted : List Wanted) (avoid : ℕ) (events : List Event) (e : Refusal) : Type 0 where
  pub cause : IsStopped events e ⊎ IsCausedByOne wanted avoid events e
  pub unheld : IsUnheld events e
  pub settled : may_leave (Err e) ≡ false → AreSettled events
  pub none_left : may_leave (Err e) ≡ false → LeavesNone events

abbrev pub Answers : List Wanted → (avoid : ℕ) → List Event → Result Moved Refusal → Type 0
Answers wanted avoid events (Ok m) = Process wanted avoid events m
Answers wanted avoid events (Err e) = Ended wanted avoid events e

-- it asks or forces, or makes an attempt for one of these
abbrev pub IsMoving : List Wanted → (avoid : ℕ) → Deed → Type 0
IsMoving wanted avoid d = IsEnding d ⊎ IsOfOne wanted avoid d

abbrev pub AreMoving : List Wanted → (avoid : ℕ) → List Event → Type 0
AreMoving wanted avoid events = AllByRecursion (λ e. IsMoving wanted avoid e.deed) events
