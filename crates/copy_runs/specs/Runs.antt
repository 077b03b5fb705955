-- What a run over wanted copies did.
use Rattle.std.specs.Prelude.{◌≡◌, ◌≤◌, ℕ, ◌+◌, ◌-◌, ◌==◌, Bool, true, false, List, [], ◌∷◌, ◌++◌, map, filter, length, Some, Result, Ok, Err}
use Rattle.std.specs.List.{AllByRecursion, list_any, slice_get}
use Rattle.std.specs.Option.{option_map_or}
use Rattle.kinds.specs.declared.refusal.Refusal.{Refusal}
use Rattle.kinds.specs.declared.segment.Segment.{Segment}
use Rattle.entries.specs.change_items.declared.items.ScratchVolume.{ScratchVolume}
use Rattle.entries.specs.declared.change.Change.{Change}
use Rattle.entries.specs.declared.change.Change.TheVariants as change
use Rattle.space.specs.declared.aim.Aim.{Aim}
use Rattle.space.specs.declared.aim.Aim.TheVariants as aim
use Rattle.steps.specs.declared.asked.Asked.TheVariants as asked
use Rattle.steps.specs.Calls.{Then, fails_object}
use Rattle.steps.specs.Events.{Deed, Event, refusal}
use Rattle.steps.specs.Events.Deed.{Commit}
use Rattle.steps.specs.Receipts.{made}
use Rattle.machine.specs.Fits.{Fits, History, Own}
use Rattle.copy_attempts.specs.declared.outcome.Came.{Came}
use Rattle.copy_attempts.specs.declared.outcome.Came.TheVariants as came
use Rattle.copy_attempts.specs.Outcomes.{Attempt, IsCaused, IsOf, may_leave}
use Rattle.steps.specs.Spent.{AreSettled}
use Rattle.copy_runs.specs.declared.wanted.Moved.{Moved}
use Rattle.copy_runs.specs.declared.wanted.Wanted.{Wanted}
use Rattle.copy_runs.specs.Wanting.{IsIn, IsPast, IsWantedAllAlong}

-- ---- counts

-- the counts with one object more
abbrev pub counted : Moved → Came → Moved
counted m (came.Copied number) = record { moved = m.moved + 1; failed = m.failed }
counted m came.Failed = record { moved = m.moved; failed = m.failed + 1 }
counted m came.Passed = m

-- what was wanted, and what came of it
abbrev pub Try : Type 0
Try = Wanted × Came

abbrev pub is_copied : Came → Bool
is_copied (came.Copied number) = true
is_copied came.Failed = false
is_copied came.Passed = false

abbrev pub is_failed : Came → Bool
is_failed (came.Copied number) = false
is_failed came.Failed = true
is_failed came.Passed = false

abbrev pub failed_tries : List Try → List Try
failed_tries tries = filter (λ t. is_failed t.1) tries

-- how many copies were made, and for how many objects none could be made
abbrev pub moved_by : List Try → Moved
moved_by tries = record { moved = length (filter (λ t. is_copied t.1) tries); failed = length (failed_tries tries) }

-- the objects for which none could be made
abbrev pub failed_by : List Try → List ℕ
failed_by tries = map (λ t. t.0.object) (failed_tries tries)

-- the object is one of them
abbrev pub is_among : ℕ → List ℕ → Bool
is_among object objects = list_any (λ n. n == object) objects

-- ---- tries, one after the other

-- for each an attempt was made, and this came of it
abbrev pub Tried : (avoid : ℕ) → List Try → List Event → Type 0
Tried avoid [] events = events ≡ []
Tried avoid (t ∷ tries) events = Then (λ xs. Attempt t.0.object t.0.aim avoid t.0.size xs (Ok t.1)) (λ ys. Tried avoid tries ys) events

abbrev pub wanted_by : List Try → List Wanted
wanted_by tries = map (λ t. t.0) tries

-- for each of these an attempt was made, and so many were made and failed
pub record Handled (wanted : List Wanted) (avoid : ℕ) (events : List Event) (m : Moved) : Type 0 where
  pub tries : List Try
  pub all : wanted_by tries ≡ wanted
  pub tried : Tried avoid tries events
  pub count : m ≡ moved_by tries

-- for the first of these an attempt was made, and then the one for the next one ended the run
pub record Broken (wanted : List Wanted) (avoid : ℕ) (events : List Event) (e : Refusal) : Type 0 where
  pub done : List Wanted
  pub next : Wanted
  pub rest : List Wanted
  pub m : Moved
  pub all : wanted ≡ done ++ next ∷ rest
  pub steps : Then (λ xs. Handled done avoid xs m) (λ ys. Attempt next.object next.aim avoid next.size ys (Err e)) events

abbrev pub Runs : List Wanted → (avoid : ℕ) → List Event → Result Moved Refusal → Type 0
Runs wanted avoid events (Ok m) = Handled wanted avoid events m
Runs wanted avoid events (Err e) = Broken wanted avoid events e

-- ---- what follows

-- it is a step of an attempt for one of these
abbrev pub IsOfOne : List Wanted → (avoid : ℕ) → Deed → Type 0
IsOfOne wanted avoid d = (x : Wanted) × IsIn x wanted × IsOf x.object x.aim avoid d

abbrev pub AreOfThese : List Wanted → (avoid : ℕ) → List Event → Type 0
AreOfThese wanted avoid events = AllByRecursion (λ e. IsOfOne wanted avoid e.deed) events

-- how many copies a step commits
abbrev pub copies_by : Deed → ℕ
copies_by (Commit asked.Placed tickets answer) = length tickets
copies_by _ = 0

-- how many copies the transactions of these steps have
abbrev pub copies_in : List Event → ℕ
copies_in [] = 0
copies_in (e ∷ events) = copies_by e.deed + copies_in events

-- the step was refused as such of an object that can't be copied now
abbrev pub is_failing : Deed → Bool
is_failing d = option_map_or fails_object (refusal d) false

-- how many steps were
abbrev pub failing_in : List Event → ℕ
failing_in events = length (filter (λ e. is_failing e.deed) events)

-- the refusal has its cause in the attempt for one of these
abbrev pub IsCausedByOne : List Wanted → (avoid : ℕ) → List Event → Refusal → Type 0
IsCausedByOne wanted avoid events e = (x : Wanted) × IsIn x wanted × IsCaused x.object x.aim avoid events e

-- each of these objects had an attempt that failed
abbrev pub HasFailed : List Wanted → (avoid : ℕ) → List Event → (object : ℕ) → Type 0
HasFailed wanted avoid events object =
    (x : Wanted) × (before : List Event) × (events_of : List Event) × (after : List Event)
    × IsIn x wanted × (x.object ≡ object) × (events ≡ before ++ (events_of ++ after)) × Attempt x.object x.aim avoid x.size events_of (Ok came.Failed)

-- A copy that is wanted at each number that its actor's steps reach is of an object that is counted as failed.
abbrev pub IsDone : List Wanted → (failed : List ℕ) → List Event → Type 0
IsDone wanted failed events =
    (w : History) (actor : ℕ) (a b : Own) → a.tickets ≡ [] → Fits w actor a events b
    → (x : Wanted) → IsIn x wanted → IsPast a.reached x.aim → IsWantedAllAlong w a.reached b.reached x.aim x.object → is_among x.object failed ≡ true

-- No ticket is left, in whatever history the events fit.
abbrev pub LeavesNone : List Event → Type 0
LeavesNone events = (w : History) (actor : ℕ) (a b : Own) → a.tickets ≡ [] → Fits w actor a events b → b.tickets ≡ []

-- the transaction of one copy of the object, by its aim: a copy that moves, or a further one
abbrev pub IsEntryFor : (object : ℕ) → Aim → Change → Type 0
IsEntryFor object (aim.New number) c =
    (scratch : List ScratchVolume) × (pool : ℕ) × (segments : List Segment)
    × (c ≡ change.Copy (record { scratch = scratch; items = (record { object = object; pool = pool; segments = segments }) ∷ [] }))
IsEntryFor object (aim.Move from placed to along) c =
    (scratch : List ScratchVolume) × (pool : ℕ) × (segments : List Segment)
    × (c ≡ change.Move (record { scratch = scratch; items = (record { object = object; from = from; placed = placed; pool = pool; segments = segments }) ∷ [] }))
IsEntryFor object (aim.Copy to) c =
    (scratch : List ScratchVolume) × (segments : List Segment)
    × (c ≡ change.Copy (record { scratch = scratch; items = (record { object = object; pool = to; segments = segments }) ∷ [] }))

-- the transaction of the step stands in the history as the actor's, and is that of one of these
abbrev pub IsEntered : History → (actor : ℕ) → List Wanted → Event → Type 0
IsEntered w actor wanted e =
    (x : Wanted) × (c : Change) × IsIn x wanted × IsEntryFor x.object x.aim c × (slice_get w.journal (e.n - w.base.number) ≡ Some (record { actor = actor; change = c }))

-- Each transaction that joined by these steps is that of one of these, in whatever history they fit.
abbrev pub EntersOnly : List Wanted → List Event → Type 0
EntersOnly wanted events =
    (w : History) (actor : ℕ) (a b : Own) → a.tickets ≡ [] → Fits w actor a events b → AllByRecursion (IsEntered w actor wanted) (made events)

-- What a run that ended with its counts did: as many copies as it counts are in its transactions; its failed objects are no more than its steps that were so refused, each with an attempt of its
-- own; what is still wanted is counted as failed; and no ticket is left.
pub record Done (wanted : List Wanted) (avoid : ℕ) (events : List Event) (m : Moved) : Type 0 where
  pub failed : List ℕ
  pub moved : m.moved ≡ copies_in (made events)
  pub number : length failed ≡ m.failed
  pub risen : m.failed ≤ failing_in events
  pub each : AllByRecursion (HasFailed wanted avoid events) failed
  pub done : IsDone wanted failed events
  pub settled : AreSettled events
  pub none_left : LeavesNone events

abbrev pub Outcome : List Wanted → (avoid : ℕ) → List Event → Result Moved Refusal → Type 0
Outcome wanted avoid events (Ok m) = Done wanted avoid events m
Outcome wanted avoid events (Err e) =
    IsCausedByOne wanted avoid events e × (may_leave (Err e) ≡ false → AreSettled events) × (may_leave (Err e) ≡ false → LeavesNone events)

-- What a run did: its steps came in their order; each was one of an attempt for one of the wanted copies, and so was each transaction that joined; and what it came to.
pub record Run (wanted : List Wanted) (avoid : ℕ) (events : List Event) (result : Result Moved Refusal) : Type 0 where
  pub steps : Runs wanted avoid events result
  pub only : AreOfThese wanted avoid events
  pub entries : EntersOnly wanted events
  pub outcome : Outcome wanted avoid events result
