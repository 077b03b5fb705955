-- How tickets are given back.
use Rattle.std.specs.Prelude.{◌≡◌, ◌⊎◌, ℕ, Bool, true, false, List, [], ◌∷◌, ◌++◌, if◌then◌else◌, Option, None, Some, Result, Ok, Err}
use Rattle.kinds.specs.declared.refusal.Refusal.{Refusal}
use Rattle.steps.specs.Calls.{IsStep, Then}
use Rattle.steps.specs.Events.{Event, has_number}
use Rattle.steps.specs.Events.Deed.{DropTicket}

-- a halted hall, or a full run: nobody can give a ticket back any more
abbrev pub is_lasting : Refusal → Bool
is_lasting e = has_number (40 ∷ 41 ∷ []) e

abbrev pub lasting_in : Result (Unit {0}) Refusal → Option Refusal
lasting_in (Ok done) = None
lasting_in (Err e) = if is_lasting e then Some e else None

-- each ticket is given back, one after the other; one that isn't there any more needs no giving back
abbrev pub DropsAll : List ℕ → List Event → Type 0
DropsAll [] events = events ≡ []
DropsAll (ticket ∷ tickets) events =
    (answer : Result (Unit {0}) Refusal) × (lasting_in answer ≡ None) × Then (λ xs. IsStep (DropTicket ticket answer) xs) (λ ys. DropsAll tickets ys) events

-- each is; or nobody can give one of them back
abbrev pub DropsEach : List ℕ → List Event → Option Refusal → Type 0
DropsEach tickets events None = DropsAll tickets events
DropsEach tickets events (Some e) =
    (front : List ℕ) × (ticket : ℕ) × (back : List ℕ) × (tickets ≡ front ++ ticket ∷ back) × (answer : Result (Unit {0}) Refusal) × (lasting_in answer ≡ Some e)
    × Then (λ xs. DropsAll front xs) (λ ys. IsStep (DropTicket ticket answer) ys) events

-- These tickets are given back where a call ends with a refusal, and this is the one with which it ends then.
abbrev pub GivesBack : List ℕ → Refusal → List Event → Refusal → Type 0
GivesBack tickets e events result =
    ((is_lasting e ≡ true) × (events ≡ []) × (result ≡ e))
    ⊎ ((is_lasting e ≡ false) × DropsEach tickets events None × (result ≡ e))
    ⊎ ((is_lasting e ≡ false) × DropsEach tickets events (Some result))
