-- Why a command is refused.
use Rattle.std.specs.Prelude.{◌≡◌, ◌⊎◌, ℕ, true, List, Result, Ok, Err}
use Rattle.kinds.specs.declared.refusal.Refusal.{Refusal}
use Rattle.kinds.specs.declared.refusal.Refusal.TheVariants.{Memory}
use Rattle.copy_attempts.specs.Outcomes.{Met}
use Rattle.steps.specs.Events.{Event, has_number}

-- want of memory, or one of these that a step of its own met
abbrev pub IsCaused : (numbers : List ℕ) → List Event → Refusal → Type 0
IsCaused numbers events e = (e ≡ Memory) ⊎ ((has_number numbers e ≡ true) × Met e events)

-- a refusal has its cause
abbrev pub HasCause : {A : Type 0} → (numbers : List ℕ) → List Event → Result A Refusal → Type 0
HasCause numbers events (Ok x) = Unit {0}
HasCause numbers events (Err e) = IsCaused numbers events e

-- such a cause, or one that is decided without a step being refused
abbrev pub IsCausedOr : (Decided : Refusal → Type 0) → (numbers : List ℕ) → List Event → Refusal → Type 0
IsCausedOr Decided numbers events e = Decided e ⊎ IsCaused numbers events e

abbrev pub HasCauseOr : {A : Type 0} → (Decided : Refusal → Type 0) → (numbers : List ℕ) → List Event → Result A Refusal → Type 0
HasCauseOr Decided numbers events (Ok x) = Unit {0}
HasCauseOr Decided numbers events (Err e) = IsCausedOr Decided numbers events e
