use Rattle.deletions.proofs.Dropped.{drops-break, drops-next, few-sum, next-lines, within-lines}
use Rattle.deletions.proofs.copies.drop_all.Goals as goal

pub returns-in-Err : goal.returns-in-Err
returns-in-Err g c =
    drops-break g.P.Stepper.did g.met.P.Stepper.goes_on c.args.p.now c.runs.p c.drop_run.new.p c.args.file _ c.runs.so_far c.in-Err.refusal c.runs.invariant.works c.in-Err.ensures.works

pub runs-preserved : goal.runs-preserved
runs-preserved g c =
    record {
      works = drops-next g.P.Stepper.did g.met.P.Stepper.goes_on c.args.p.now c.runs.p c.drop_run.new.p c.args.file c.args.lines.now _ c.runs.at c.run_of-run.result c.runs.so_far c.in-Ok.more c.sum-so_far.result
          (next-lines c.runs.at c.run_of-run.result c.args.lines.now) c.sum-so_far.ensures c.runs.invariant.works c.in-Ok.ensures.works;
      few = few-sum c.runs.so_far c.in-Ok.more c.sum-so_far.result c.runs.at c.run_of-run.result _ c.sum-so_far.ensures c.runs.invariant.few c.in-Ok.ensures.few;
      within = within-lines c.runs.at c.run_of-run.result c.args.lines.now c.runs.invariant.within c.run_of-run.ensures.within;
    }
