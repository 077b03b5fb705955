-- That all was made durable is looked for, and not cited: a body that doesn't force is refused for want of that fact.
use Rattle.std.proofs.Common.{rules}
use Rattle.reclamation.proofs.Clearing.{works, works-unfinished}
use Rattle.reclamation.proofs.reclaiming.clear_and_finish.Goals as goal

pub returns-in-Ok-finish : goal.returns-in-Ok-finish
returns-in-Ok-finish g c =
    works g.P.Stepper.did g.met.P.Stepper.goes_on c.args.p.now c.clear_all.new.p _ c.args.pool c.args.files.now c.in-Ok.came c.in-Ok.ensures (search rules)

pub returns-in-Err-finish : goal.returns-in-Err-finish
returns-in-Err-finish g c =
    works-unfinished g.P.Stepper.did g.met.P.Stepper.goes_on c.args.p.now c.clear_all.new.p _ c.args.pool c.args.files.now c.in-Ok.came c.in-Err-finish.refusal c.in-Ok.ensures (search rules)
