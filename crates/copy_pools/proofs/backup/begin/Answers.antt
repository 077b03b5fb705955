-- That the pools were looked up is looked for, and not cited: a body that doesn't ask for them is refused for want of that fact.
use Rattle.std.proofs.Common.{rules}
use Rattle.copy_pools.proofs.Asking.{begin-refused, begins}
use Rattle.copy_pools.proofs.backup.begin.Goals as goal

pub returns-in-Ok-check : goal.returns-in-Ok-check
returns-in-Ok-check g c =
    begins g.P.Stepper.did g.met.P.Stepper.goes_on c.args.p.now c.list.new.p _ c.args.primary c.args.copy c.in-Ok.lines c.as_slice.result.now c.wanted.result c.as_slice.ensures c.wanted.ensures c.in-Ok.ensures (search rules)

pub returns : goal.returns
returns g c =
    begin-refused g.P.Stepper.did g.met.P.Stepper.goes_on c.args.p.now c.list.new.p _ c.args.primary c.args.copy c.in-Ok.lines c.in-Err-check.refusal c.in-Ok.ensures (search rules)
