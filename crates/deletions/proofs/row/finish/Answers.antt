-- That all was made durable is looked for, and not cited: a body that doesn't force is refused for want of that fact.
use Rattle.std.proofs.Common.{rules}
use Rattle.deletions.proofs.Removing.{ends-checked, ends-unforced}
use Rattle.deletions.proofs.row.finish.Goals as goal

pub returns-in-Ok : goal.returns-in-Ok
returns-in-Ok g c = ends-checked g.P.Stepper.did g.met.P.Stepper.goes_on c.args.p.now _ c.check_gone.new.p c.args.file c.in-Ok.field-0 c.check_gone.result (search rules) c.check_gone.ensures

pub returns-in-Err : goal.returns-in-Err
returns-in-Err g c = ends-unforced g.P.Stepper.did c.args.p.now _ c.args.file c.in-Err.refusal c.stopping.result c.stopping.ensures (search rules)
