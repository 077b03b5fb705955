-- That all was made durable is looked for, and not cited: a body that doesn't force is refused for want of that fact.
use Rattle.std.proofs.Common.{rules}
use Rattle.copy_runs.proofs.Ending.{finishes}
use Rattle.copy_runs.proofs.ends.finish.Goals as goal

pub returns-in-Ok : goal.returns-in-Ok
returns-in-Ok g c = finishes g.P.Stepper.did g.met.P.Stepper.goes_on c.args.p.now _ c.ask_today.new.p c.in-Ok.field-0 c.ask_today.result (search rules) c.ask_today.ensures
