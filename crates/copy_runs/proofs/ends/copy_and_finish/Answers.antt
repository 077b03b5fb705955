-- That the end was made is looked for, and not cited: a body that makes none is refused for want of that fact.
use Rattle.std.proofs.Common.{rules, Ok, Err}
use Rattle.copy_runs.proofs.Ending.{completes}
use Rattle.copy_runs.proofs.ends.copy_and_finish.Goals as goal

pub returns-in-Ok-finish : goal.returns-in-Ok-finish
returns-in-Ok-finish g c =
    completes g.P.Stepper.did g.met.P.Stepper.goes_on c.args.p.now c.copy_all.new.p _ c.args.wanted.now c.args.avoid c.in-Ok.moved (Ok tt) c.in-Ok.ensures (search rules)

pub returns-in-Err-finish : goal.returns-in-Err-finish
returns-in-Err-finish g c =
    completes g.P.Stepper.did g.met.P.Stepper.goes_on c.args.p.now c.copy_all.new.p _ c.args.wanted.now c.args.avoid c.in-Ok.moved (Err c.in-Err-finish.refusal) c.in-Ok.ensures (search rules)
