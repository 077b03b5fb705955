-- That it was asked whether it may move there is looked for, and not cited: a body that doesn't ask is refused for want of that fact.
use Rattle.std.proofs.Common.{rules}
use Rattle.reclamation.proofs.Beginning.{begin-refused, begins}
use Rattle.reclamation.proofs.moving.begin.Goals as goal

pub returns-in-Ok-check_if : goal.returns-in-Ok-check_if
returns-in-Ok-check_if g c =
    begins g.P.Stepper.did g.met.P.Stepper.goes_on c.args.p.now c.list.new.p _ c.args.file c.args.to c.in-Ok.lines c.as_slice.result.now c.wanted.result c.as_slice.ensures c.wanted.ensures c.in-Ok.ensures (search rules)

pub returns : goal.returns
returns g c =
    begin-refused g.P.Stepper.did g.met.P.Stepper.goes_on c.args.p.now c.list.new.p _ c.args.file c.args.to c.in-Ok.lines c.in-Err-check_if.refusal c.in-Ok.ensures (search rules)
