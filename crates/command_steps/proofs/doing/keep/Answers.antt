use Rattle.std.proofs.Common.{ℕ}
use Rattle.reports.specs.declared.shown.Shown.TheVariants.{Done}
use Rattle.sessions.specs.Checkpoints.{Checkpointing}
use Rattle.command_steps.proofs.Worked.{gives-err, gives-ok}
use Rattle.command_steps.specs.declared.outcome.Outcome.TheVariants.{Said}
use Rattle.command_steps.proofs.doing.keep.Goals as goal

pub returns-in-Ok : goal.returns-in-Ok
returns-in-Ok g c = gives-ok g.P.Stepper.did c.args.p.now c.checkpoint.new.p Checkpointing (λ (seq : ℕ). Said Done) c.in-Ok.field-0 c.in-Ok.ensures

pub returns-in-Err : goal.returns-in-Err
returns-in-Err g c = gives-err g.P.Stepper.did c.args.p.now c.checkpoint.new.p Checkpointing (λ (seq : ℕ). Said Done) c.in-Err.refusal c.in-Err.ensures
