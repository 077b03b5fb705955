-- What an attempt to make an object's copy came to.
use Rattle.std.specs.Prelude.{◌≡◌, ◌⊎◌, ℕ, ◌==◌, Bool, true, false, List, [], ◌∷◌, Some, Result, Ok, Err}
use Rattle.std.specs.List.{AllByRecursion, list_any}
use Rattle.std.specs.Option.{option_map_or}
use Rattle.kinds.specs.Refusals.{number_of}
use Rattle.kinds.specs.declared.refusal.Refusal.{Refusal}
use Rattle.kinds.specs.declared.refusal.Refusal.TheVariants as refused
use Rattle.space.specs.declared.aim.Aim.{Aim}
use Rattle.steps.specs.declared.asked.Asked.TheVariants as asked
use Rattle.steps.specs.Calls.{fails_object}
use Rattle.steps.specs.Events.{Deed, Event, event, has_number, refusal}
use Rattle.steps.specs.Events.Deed.{OpenCopy, CopyPiece, Seal, Commit, DropTicket, Force}
use Rattle.steps.specs.Receipts.{made}
use Rattle.steps.specs.Spent.{AreSettled}
use Rattle.copy_attempts.specs.declared.outcome.Came.{Came}
use Rattle.copy_attempts.specs.declared.outcome.Came.TheVariants as came
use Rattle.copy_attempts.specs.Attempts.{Goes, is_passed, is_stopping}

-- ---- steps

-- it opens tickets of this object for this aim, and commits one ticket at a time
abbrev pub IsOf : (object : ℕ) → Aim → (avoid : ℕ) → Deed → Type 0
IsOf object aim avoid (OpenCopy number to other answer) = (number ≡ object) × (to ≡ aim) × (other ≡ avoid)
IsOf object aim avoid (CopyPiece ticket answer) = Unit {0}
IsOf object aim avoid (Seal ticket answer) = Unit {0}
IsOf object aim avoid (Commit a tickets answer) = (ticket : ℕ) × (a ≡ asked.Placed) × (tickets ≡ ticket ∷ [])
IsOf object aim avoid (DropTicket ticket answer) = Unit {0}
IsOf object aim avoid (Force answer) = Unit {0}
IsOf object aim avoid _ = ⊥

-- no others
abbrev pub AreOf : (object : ℕ) → Aim → (avoid : ℕ) → List Event → Type 0
AreOf object aim avoid events = AllByRecursion (λ e. IsOf object aim avoid e.deed) events

-- ---- tickets

-- the ticket was opened
abbrev pub opens : ℕ → Deed → Bool
opens ticket (OpenCopy object aim avoid (Ok number)) = number == ticket
opens ticket _ = false

abbrev pub is_opened : ℕ → List Event → Bool
is_opened ticket events = list_any (λ e. opens ticket e.deed) events

-- a ticket may be left only where nobody can give it back: the hall is halted, or the run is full
abbrev pub may_leave : Result Came Refusal → Bool
may_leave (Ok x) = false
may_leave (Err e) = has_number (40 ∷ 41 ∷ []) e

-- ---- transactions

-- where the copy was made, one transaction joined, of one ticket, which was opened here; else none
abbrev pub Commits : List Event → Result Came Refusal → Type 0
Commits events (Ok (came.Copied number)) =
    (n : ℕ) × (ticket : ℕ) × (made events ≡ event n (Commit asked.Placed (ticket ∷ []) (Ok number)) ∷ []) × (is_opened ticket events ≡ true)
Commits events _ = made events ≡ []

-- ---- what answers mean

-- one of the steps is such a one
abbrev pub MetBy : (Deed → Type 0) → List Event → Type 0
MetBy Is [] = ⊥
MetBy Is (e ∷ events) = Is e.deed ⊎ MetBy Is events

-- one of the steps was refused so
abbrev pub Met : Refusal → List Event → Type 0
Met e events = MetBy (λ d. refusal d ≡ Some e) events

-- one of the steps was refused, and the test holds of its refusal
abbrev pub MetOf : (Refusal → Bool) → List Event → Type 0
MetOf test events = MetBy (λ d. option_map_or test (refusal d) false ≡ true) events

-- Want of memory; a refusal that ends a run or that is waited for, which one of the steps met; or the pool that is aimed at isn't there, which the opening of a ticket met.
abbrev pub IsCaused : (object : ℕ) → Aim → (avoid : ℕ) → List Event → Refusal → Type 0
IsCaused object aim avoid events e =
    (e ≡ refused.Memory)
    ⊎ ((is_stopping e ≡ true) × Met e events)
    ⊎ (((number_of e == 10) ≡ true) × MetBy (λ d. d ≡ OpenCopy object aim avoid (Err e)) events)

abbrev pub Means : (object : ℕ) → Aim → (avoid : ℕ) → List Event → Result Came Refusal → Type 0
Means object aim avoid events (Ok (came.Copied number)) = Unit {0}
Means object aim avoid events (Ok came.Failed) = MetOf fails_object events
Means object aim avoid events (Ok came.Passed) = MetOf is_passed events
Means object aim avoid events (Err e) = IsCaused object aim avoid events e

-- ---- the whole

-- What an attempt did: its steps came in their order; they were no others than its own; no ticket is left, but where none can be given back; one transaction joined where the copy was made
-- and none else; and what it answered has a step's answer as its cause.
pub record Attempt (object : ℕ) (aim : Aim) (avoid size : ℕ) (events : List Event) (result : Result Came Refusal) : Type 0 where
  pub order : Goes object aim avoid size events result
  pub only : AreOf object aim avoid events
  pub settled : may_leave result ≡ false → AreSettled events
  pub commits : Commits events result
  pub means : Means object aim avoid events result
