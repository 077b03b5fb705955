use Rattle.deletions.proofs.Dropped.{drops-break, drops-next, few-line, step-line}
use Rattle.deletions.proofs.copies.one_by_one.Goals as goal

pub returns-in-Err-clause-works : goal.returns-in-Err-clause-works
returns-in-Err-clause-works g c =
    drops-break g.P.Stepper.did g.met.P.Stepper.goes_on c.args.p.now c.lines.p c.drop_alone.new.p c.args.file _ c.lines.so_far c.in-Err.refusal c.lines.invariant.works c.in-Err.ensures.works

pub lines-preserved : goal.lines-preserved
lines-preserved g c =
    record {
      works = drops-next g.P.Stepper.did g.met.P.Stepper.goes_on c.args.p.now c.lines.p c.drop_alone.new.p c.args.file c.args.lines.now _ c.lines.place 1 c.lines.so_far c.in-Ok.more c.sum-so_far.result
          (step-line c.lines.place c.args.lines.now) c.sum-so_far.ensures c.lines.invariant.works c.in-Ok.ensures.works;
      few = few-line c.lines.so_far c.in-Ok.more c.sum-so_far.result c.lines.place c.args.lines.now c.sum-so_far.ensures c.lines.invariant.few c.in-Ok.ensures.few;
    }
