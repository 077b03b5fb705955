use Rattle.std.proofs.Common.{ℕ}
use Rattle.sessions.specs.Changing.{Changing}
use Rattle.command_steps.proofs.Worked.{gives-err, made}
use Rattle.command_steps.specs.Owns.{last_of}
use Rattle.command_steps.specs.declared.outcome.Outcome.TheVariants.{Said}
use Rattle.command_steps.proofs.doing.make.Goals as goal

pub returns-in-Ok : goal.returns-in-Ok
returns-in-Ok g c = made g.P.Stepper.did c.args.p.now c.commit_change.new.p c.args.change c.in-Ok.field-0 c.last_of-shown.result c.last_of-shown.ensures c.in-Ok.ensures

pub returns-in-Err : goal.returns-in-Err
returns-in-Err g c = gives-err g.P.Stepper.did c.args.p.now c.commit_change.new.p (Changing c.args.change) (λ (number : ℕ). Said (last_of c.args.change)) c.in-Err.refusal c.in-Err.ensures
