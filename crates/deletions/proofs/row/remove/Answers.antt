use Rattle.deletions.proofs.Removing.{removes-ended, removes-kept}
use Rattle.deletions.proofs.row.remove.Goals as goal

pub returns-in-Ok : goal.returns-in-Ok
returns-in-Ok g c =
    removes-ended g.P.Stepper.did g.met.P.Stepper.goes_on c.args.p.now c.remove_row.new.p c.finish.new.p c.args.row.now c.args.file c.finish.result c.in-Ok.ensures c.finish.ensures

pub returns-in-Err : goal.returns-in-Err
returns-in-Err g c = removes-kept g.P.Stepper.did c.args.p.now c.remove_row.new.p c.args.row.now c.args.file c.in-Err.refusal c.in-Err.ensures
