use Rattle.deletions.proofs.Removing.{clears-all, clears-unlisted}
use Rattle.deletions.proofs.volume.clear.Goals as goal

pub returns-in-Ok : goal.returns-in-Ok
returns-in-Ok g c =
    clears-all g.P.Stepper.did g.met.P.Stepper.goes_on c.args.p.now c.list.new.p c.take_lines.new.p c.args.file c.in-Ok.lines c.as_slice.result.now c.take_lines.result c.as_slice.ensures c.in-Ok.ensures c.take_lines.ensures

pub returns-in-Err : goal.returns-in-Err
returns-in-Err g c = clears-unlisted g.P.Stepper.did c.args.p.now c.list.new.p c.args.file c.in-Err.refusal c.in-Err.ensures
