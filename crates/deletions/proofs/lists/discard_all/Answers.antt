use Rattle.deletions.proofs.Working.{few-run, next-run, within-run, works-break, works-next}
use Rattle.deletions.proofs.lists.discard_all.Goals as goal

pub returns-in-Err : goal.returns-in-Err
returns-in-Err g c =
    works-break g.P.Stepper.did g.met.P.Stepper.goes_on c.args.p.now c.runs.p c.discard_run.new.p c.args.reason _ c.runs.count c.in-Err.refusal c.runs.invariant.works c.in-Err.ensures.works

pub runs-preserved : goal.runs-preserved
runs-preserved g c =
    record {
      works = works-next g.P.Stepper.did g.met.P.Stepper.goes_on c.args.p.now c.runs.p c.discard_run.new.p c.args.reason c.args.objects.now _ c.runs.at c.run_of-run.result c.runs.count c.in-Ok.more
          (next-run c.runs.at c.run_of-run.result c.args.objects.now)
          c.runs.invariant.works c.in-Ok.ensures.works;
      few = few-run c.in-Ok.more c.runs.count c.runs.at c.run_of-run.result _ c.runs.invariant.few c.in-Ok.ensures.few;
      within = within-run c.runs.at c.run_of-run.result c.args.objects.now c.runs.invariant.within c.run_of-run.ensures.within;
    }
