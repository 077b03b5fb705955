-- What a step makes of a hall: one case of the machine.
use Rattle.std.specs.Prelude.{◌≡◌, ℕ, List, Option, None, Some}
use Rattle.store_api.specs.Disk.{History}
use Rattle.store_api.specs.Runs.{GoesOn}
use Rattle.store_api.specs.Told.{Told}
use Rattle.steps.specs.Events.{Deed, event, reply_of, step_of}
use Rattle.steps.specs.declared.step.Reply.{Reply}
use Rattle.steps.specs.declared.step.Step.{Step}
use Rattle.machine.specs.Alone.{AreBytes, behind, with_contents}
use Rattle.machine.specs.Machine.{Made}
use Rattle.machine.specs.State.{Machine, inventory}
use Rattle.hall.specs.Good.{Is, WasSound}
use Rattle.hall.specs.Held.{Hall, Held}
use Rattle.hall.specs.Placed.{hall_places}

-- the store tells its bytes, and was sound when the hall was opened
abbrev pub IsTrusted : Option History → Held → Type 0
IsTrusted None held = ⊥
IsTrusted (Some h) held = WasSound held.base held.opened h

-- From each state of the machine in which the hall was, an actor's step led to one in which it is, by the machine's case.
abbrev pub Steps : {S : Type 0} → (told : S → Option History) → (moment : S → ℕ) → (faults : S → ℕ → ℕ) → (actor : ℕ) → Deed → Hall S → Hall S → Type 0
Steps told moment faults actor deed old new =
    (m : Machine) → Is told moment faults old m →
    (seen : ℕ → List ℕ) × (next : Machine) × AreBytes (IsTrusted (told old.store) old.held) deed m.contents seen
    × Made hall_places actor (event (inventory m.core).number deed) (with_contents seen m) next
    × Is told moment faults new (behind deed m.contents next)

-- What every step leaves: the hall is still the one that was opened, and its store goes on from what it told.
pub record Goes {S : Type 0} (told : S → Option History) (old new : Hall S) : Type 0 where
  pub base : new.held.base ≡ old.held.base
  pub opened : new.held.opened ≡ old.held.opened
  pub files : Told (told old.store) (told new.store) (GoesOn (λ file. Unit {0}))

-- a step as a value was answered
abbrev pub Answers : {S : Type 0} → (told : S → Option History) → (moment : S → ℕ) → (faults : S → ℕ → ℕ) → (actor : ℕ) → Step → Reply → Hall S → Hall S → Type 0
Answers told moment faults actor step reply old new =
    (deed : Deed) × (step_of deed ≡ step) × (reply_of deed ≡ reply) × Steps told moment faults actor deed old new × Goes told old new

-- it only looked: no file changed, and the hall holds what it held
pub record Looks {S : Type 0} (told : S → Option History) (old new : Hall S) : Type 0 where
  pub held : new.held ≡ old.held
  pub files : Told (told old.store) (told new.store) (GoesOn (λ file. ⊥))
