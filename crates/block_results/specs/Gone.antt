-- Where a process of a job that moves copies gets no ticket for one, since the pool isn't there.
use Rattle.std.specs.Prelude.{◌≡◌, ℕ, false, List, Err}
use Rattle.kinds.specs.declared.refusal.Refusal.TheVariants.{NotFound}
use Rattle.inventory_rows.specs.State.{Inv}
use Rattle.inventory_work.specs.Copies.{has_pool}
use Rattle.script_loop.specs.Reply.{Answer}
use Rattle.space.specs.declared.aim.Aim.{Aim}
use Rattle.space.specs.declared.aim.Aim.TheVariants as aim
use Rattle.steps.specs.Events.{Event}
use Rattle.steps.specs.Events.Deed.{OpenCopy}
use Rattle.machine.specs.State.{Machine}
use Rattle.line_results.specs.copy_attempts.Outcomes.{MetBy}
use Rattle.line_results.specs.command_steps.Answers.{refusal}
use Rattle.line_results.specs.command_steps.Owns.{Own, moves}
use Rattle.line_results.specs.Resting.{database}

-- the pool isn't there to which the copy is to move
abbrev pub IsPoolGone : Aim → Inv → Type 0
IsPoolGone (aim.Move from placed to along) v = has_pool to v ≡ false
IsPoolGone a v = ⊥

-- A process that moves copies got no ticket for one, since the pool that it was to go to isn't there at one of the states that are meant. (Where the object or its copy isn't there any more a process goes on: both were there when the copy was
-- listed, so the journal tells which transaction took it away.)
abbrev pub IsUnopened : (Is : Machine → Type 0) → Own → (n : ℕ) → List Event → Answer → Type 0
IsUnopened Is (moves mover) n events answer =
    (answer ≡ refusal n NotFound) × (object : ℕ) × (a : Aim) × (avoid : ℕ) × MetBy (λ d. d ≡ OpenCopy object a avoid (Err NotFound)) events × (m : Machine) × Is m × IsPoolGone a (database m)
IsUnopened Is own n events answer = ⊥
