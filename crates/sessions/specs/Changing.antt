-- A change is committed and made durable.
use Rattle.std.specs.Prelude.{◌≡◌, ◌⊎◌, ℕ, ◌+◌, ◌-◌, ◌≤◌, List, [], ◌∷◌, Some, Result, Ok, Err}
use Rattle.std.specs.List.{AllByRecursion, slice_get}
use Rattle.kinds.specs.declared.refusal.Refusal.{Refusal}
use Rattle.entries.specs.declared.change.Change.{Change}
use Rattle.machine.specs.Changes.{filled}
use Rattle.machine.specs.Fits.{History, inv}
use Rattle.steps.specs.declared.asked.Asked.{Asked}
use Rattle.steps.specs.declared.asked.Asked.TheVariants.{Plain}
use Rattle.steps.specs.Calls.{Made, Then}
use Rattle.steps.specs.Events.{Deed, Event, event}
use Rattle.steps.specs.Events.Deed.{Commit, Force}
use Rattle.steps.specs.Receipts.{receipts}
use Rattle.sessions.specs.Outcomes.{HasCause}
use Rattle.sessions.specs.Waiting.{Obtains}

-- one try to commit what takes no ticket
abbrev pub Commits : Asked → Result ℕ Refusal → List Event → Type 0
Commits asked answer events = Made (Commit asked [] answer) events

-- it is committed, as soon as nobody holds what it takes away
abbrev pub Joins : Asked → List Event → Result ℕ Refusal → Type 0
Joins asked events result = Obtains (Commits asked) events result

-- a change is committed and then made durable, or one of the two was refused
abbrev pub Changes : Change → List Event → Result ℕ Refusal → Type 0
Changes c events (Ok number) = (last : ℕ) × Then (λ xs. Joins (Plain c) xs (Ok number)) (λ ys. Made (Force (Ok last)) ys) events
Changes c events (Err e) =
    Joins (Plain c) events (Err e)
    ⊎ ((number : ℕ) × Then (λ xs. Joins (Plain c) xs (Ok number)) (λ ys. Made (Force (Err e)) ys) events)

-- it commits this change, or forces
abbrev pub IsOf : Change → Deed → Type 0
IsOf c (Commit asked tickets answer) = (asked ≡ Plain c) × (tickets ≡ [])
IsOf c (Force answer) = Unit {0}
IsOf c _ = ⊥

-- a change that was answered with this number is the one transaction of these steps that is acknowledged
abbrev pub IsAcknowledged : Change → List Event → Result ℕ Refusal → Type 0
IsAcknowledged c events (Ok number) = (n : ℕ) × (receipts events ≡ event n (Commit (Plain c) [] (Ok number)) ∷ [])
IsAcknowledged c events (Err e) = Unit {0}

-- what a change may be refused with: what a commit may
abbrev pub numbers : List ℕ
numbers = 4 ∷ 10 ∷ 11 ∷ 12 ∷ 13 ∷ 14 ∷ 15 ∷ 21 ∷ 22 ∷ 23 ∷ 28 ∷ 30 ∷ 31 ∷ 40 ∷ 41 ∷ 50 ∷ []

-- What the change of a command did: its steps in their order, and no others; what it answered is acknowledged, or its refusal has its cause.
pub record Changing (c : Change) (events : List Event) (result : Result ℕ Refusal) : Type 0 where
  pub order : Changes c events result
  pub only : AllByRecursion (λ e. IsOf c e.deed) events
  pub acknowledged : IsAcknowledged c events result
  pub cause : HasCause numbers events result

-- The transaction with this number in a history is this change of this actor, with the numbers filled in that are drawn when it is made.
abbrev pub IsJournaled : History → (actor : ℕ) → Change → (number : ℕ) → Type 0
IsJournaled w actor c number =
    (n : ℕ) × (next_file : ℕ) × (w.base.number ≤ n) × (number ≡ n + 1)
    × (slice_get w.journal (n - w.base.number) ≡ Some (record { actor = actor; change = filled next_file (inv w n) c }))
