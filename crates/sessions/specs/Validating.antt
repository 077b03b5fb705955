-- Whether a policy set may be activated is asked.
use Rattle.std.specs.Prelude.{◌≡◌, ◌⊎◌, ℕ, ◌≤◌, true, List, [], ◌∷◌, Option, None, Some, if◌then◌else◌, Result, Ok, Err}
use Rattle.std.specs.List.{AllByRecursion}
use Rattle.kinds.specs.declared.refusal.Refusal.{Refusal}
use Rattle.kinds.specs.declared.refusal.Refusal.TheVariants.{Memory}
use Rattle.copy_attempts.specs.Outcomes.{MetBy}
use Rattle.inventory_answers.specs.Policy.{activation_refusal}
use Rattle.inventory_answers.specs.declared.query.Query.TheVariants as query
use Rattle.inventory_answers.specs.declared.reply.Answer.{Answer}
use Rattle.inventory_answers.specs.declared.reply.Rows.TheVariants as rows
use Rattle.machine.specs.Fits.{History, inv}
use Rattle.steps.specs.Events.{Deed, Event, has_number}
use Rattle.steps.specs.Events.Deed.{Ask}
use Rattle.sessions.specs.Asking.{Asks}
use Rattle.sessions.specs.Outcomes.{IsCaused}

-- how its activation would be refused is asked
abbrev pub AsksValidity : (domain set : List ℕ) → List Event → Result (Option Refusal) Refusal → Type 0
AsksValidity domain set events answer = Asks (query.Validated domain set) rows.Validated events answer

-- the domain or the set isn't there, or the set has no default class; what isn't told there stands for want of memory
abbrev pub is_unfit : Refusal → Type 0
is_unfit e = has_number (10 ∷ 13 ∷ []) e ≡ true

abbrev pub unfit : Refusal → Refusal
unfit e = if has_number (10 ∷ 13 ∷ []) e then e else Memory

-- it may be activated, or it is refused as its activation would be, or the question was refused
abbrev pub validity : Result (Option Refusal) Refusal → Result (Unit {0}) Refusal
validity (Ok None) = Ok tt
validity (Ok (Some e)) = Err (unfit e)
validity (Err e) = Err e

abbrev pub Validates : (domain set : List ℕ) → List Event → Result (Unit {0}) Refusal → Type 0
Validates domain set events result = (answer : Result (Option Refusal) Refusal) × AsksValidity domain set events answer × (result ≡ validity answer)

-- it asks that and nothing else, so that nothing is committed
abbrev pub IsOf : (domain set : List ℕ) → Deed → Type 0
IsOf domain set (Ask asked answer) = asked ≡ query.Validated domain set
IsOf domain set _ = ⊥

-- the step was answered that the activation would be so refused
abbrev pub Tells : (domain set : List ℕ) → Refusal → Deed → Type 0
Tells domain set e d = (answer : Answer) × (d ≡ Ask (query.Validated domain set) (Ok answer)) × (answer.rows ≡ rows.Validated (Some e))

-- what a question may be refused with: something isn't there, a halted hall, a full run, want of memory
abbrev pub numbers : List ℕ
numbers = 10 ∷ 40 ∷ 41 ∷ 50 ∷ []

-- a refusal is one that the answer tells, or the question's own
abbrev pub IsTold : (domain set : List ℕ) → List Event → Result (Unit {0}) Refusal → Type 0
IsTold domain set events (Ok done) = Unit {0}
IsTold domain set events (Err e) = (is_unfit e × MetBy (Tells domain set e) events) ⊎ IsCaused numbers events e

-- What VALIDATE did: its one question and no other step; and its refusal has its cause.
pub record Validating (domain set : List ℕ) (events : List Event) (result : Result (Unit {0}) Refusal) : Type 0 where
  pub order : Validates domain set events result
  pub only : AllByRecursion (λ e. IsOf domain set e.deed) events
  pub cause : IsTold domain set events result

-- ---- in a history

-- At some number of the history from the one on and up to the other the activation would be so refused, or not at all.
abbrev pub IsValidAt : History → (since until : ℕ) → (domain set : List ℕ) → Option Refusal → Type 0
IsValidAt w since until domain set refusal = (n : ℕ) × (since ≤ n) × (n ≤ until) × (activation_refusal domain set (inv w n).domains ≡ refusal)

-- What was answered is so in the history: it may be activated; or it is refused, unless the hall is halted, the run is full or memory was wanted.
abbrev pub IsValidated : History → (since until : ℕ) → (domain set : List ℕ) → Result (Unit {0}) Refusal → Type 0
IsValidated w since until domain set (Ok done) = IsValidAt w since until domain set None
IsValidated w since until domain set (Err e) = IsValidAt w since until domain set (Some e) ⊎ (has_number (40 ∷ 41 ∷ 50 ∷ []) e ≡ true)
