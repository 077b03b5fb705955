use Rattle.deletions.proofs.Working.{few-one, step-one, works-break, works-next}
use Rattle.deletions.proofs.lists.one_by_one.Goals as goal

pub returns-in-Err-clause-works : goal.returns-in-Err-clause-works
returns-in-Err-clause-works g c =
    works-break g.P.Stepper.did g.met.P.Stepper.goes_on c.args.p.now c.objects.p c.discard_alone.new.p c.args.reason _ c.objects.count c.in-Err.refusal c.objects.invariant.works c.in-Err.ensures.works

pub objects-preserved : goal.objects-preserved
objects-preserved g c =
    record {
      works = works-next g.P.Stepper.did g.met.P.Stepper.goes_on c.args.p.now c.objects.p c.discard_alone.new.p c.args.reason c.args.objects.now _ c.objects.place 1 c.objects.count c.in-Ok.more
          (step-one c.objects.place c.args.objects.now)
          c.objects.invariant.works c.in-Ok.ensures.works;
      few = few-one c.in-Ok.more c.objects.count c.objects.place c.args.objects.now c.objects.invariant.few c.in-Ok.ensures.few;
    }
