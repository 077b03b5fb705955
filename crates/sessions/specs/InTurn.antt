-- Calls one after the other, the later ones by what the earlier ones answered.
use Rattle.std.specs.Prelude.{◌≡◌, ◌⊎◌, List, [], Result, Ok, Err}
use Rattle.kinds.specs.Answers.{Answers}
use Rattle.kinds.specs.declared.refusal.Refusal.{Refusal}
use Rattle.kinds.specs.declared.refusal.Refusal.TheVariants.{Memory}
use Rattle.steps.specs.Calls.{Then}
use Rattle.steps.specs.Events.{Event}

-- What was first was answered, and what comes then, by its answer; or it was refused, and that is the answer.
abbrev pub InTurn : {A B : Type 0} → (First : List Event → Result A Refusal → Type 0) → (Next : A → List Event → Result B Refusal → Type 0) → List Event → Result B Refusal → Type 0
InTurn {A = A} First Next events result =
    ((e : Refusal) × First events (Err e) × (result ≡ Err e))
    ⊎ ((x : A) × Then (λ xs. First xs (Ok x)) (λ ys. Next x ys result) events)

-- this was decided without a step, or memory was wanted for it
abbrev pub Decides : {A : Type 0} → (said : Result A Refusal) → List Event → Result A Refusal → Type 0
Decides said events result = (events ≡ []) × Answers result said

-- memory may be wanted before it
abbrev pub OrMemory : {A : Type 0} → (List Event → Result A Refusal → Type 0) → List Event → Result A Refusal → Type 0
OrMemory Calls events result = Calls events result ⊎ ((events ≡ []) × (result ≡ Err Memory))
