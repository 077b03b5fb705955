-- What is asked of placing, and runs of the machine.
use Rattle.std.specs.Prelude.{◌≡◌, ℕ, true, Contains, Ok, Err}
use Rattle.kinds.specs.declared.refusal.Refusal.{Refusal}
use Rattle.steps.specs.inventory_rows.State.{Inv}
use Rattle.steps.specs.space.declared.aim.Aim.{Aim}
use Rattle.steps.specs.space.Placing.{walked}
use Rattle.machine.specs.Machine.{Places, Space}
use Rattle.machine.specs.Says.{is_elsewhere}
use Rattle.machine.specs.State.{Place}

-- placing refuses for causes elsewhere alone
abbrev pub RefusesElsewhere : Places → Type 0
RefusesElsewhere places =
    (v : Inv) (s : Space) (actor size : ℕ) (a : Aim) (prefer avoid : ℕ) (e : Refusal) → places v s actor size a prefer avoid (Err e) → is_elsewhere e ≡ true

-- placing puts an object into one of the pools that its aim walks
abbrev pub GoesWhereAimed : Places → Type 0
GoesWhereAimed places =
    (v : Inv) (s : Space) (actor size : ℕ) (a : Aim) (prefer avoid : ℕ) (place : Place) → places v s actor size a prefer avoid (Ok place) → Contains (walked a v.stores) place.pool
