-- That the pool was looked up is looked for, and not cited: a body that doesn't ask for it is refused for want of that fact.
use Rattle.std.proofs.Common.{rules}
use Rattle.reclamation.proofs.Questions.{pool-begins, pool-refused}
use Rattle.reclamation.proofs.reclaiming.begin.Goals as goal

pub returns-in-Ok-check : goal.returns-in-Ok-check
returns-in-Ok-check g c =
    pool-begins g.P.Stepper.did g.met.P.Stepper.goes_on c.args.p.now c.list_files.new.p _ c.args.pool c.args.threshold c.in-Ok.files c.in-Ok.ensures (search rules)

pub returns-in-Err-check : goal.returns-in-Err-check
returns-in-Err-check g c =
    pool-refused g.P.Stepper.did g.met.P.Stepper.goes_on c.args.p.now c.list_files.new.p _ c.args.pool c.args.threshold c.in-Ok.files c.in-Err-check.refusal c.in-Ok.ensures (search rules)
