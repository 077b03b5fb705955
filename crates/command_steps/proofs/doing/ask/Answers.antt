use Rattle.command_steps.proofs.Worked.{gives-err, gives-ok}
use Rattle.command_steps.specs.Doing.{Told}
use Rattle.command_steps.specs.declared.outcome.Outcome.TheVariants.{Rows}
use Rattle.command_steps.proofs.doing.ask.Goals as goal

pub returns-in-Ok : goal.returns-in-Ok
returns-in-Ok g c = gives-ok g.P.Stepper.did c.args.p.now c.show.new.p (Told c.args.query.now) Rows c.in-Ok.answer c.in-Ok.ensures

pub returns-in-Err : goal.returns-in-Err
returns-in-Err g c = gives-err g.P.Stepper.did c.args.p.now c.show.new.p (Told c.args.query.now) Rows c.in-Err.refusal c.in-Err.ensures
