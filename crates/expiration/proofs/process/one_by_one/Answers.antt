use Rattle.expiration.proofs.Working.{few-one, step-one, works-break, works-next}
use Rattle.expiration.proofs.process.one_by_one.Goals as goal

pub returns-in-Err-clause-works : goal.returns-in-Err-clause-works
returns-in-Err-clause-works g c =
    works-break g.P.Stepper.did g.met.P.Stepper.goes_on c.args.p.now c.lines.p c.remove_alone.new.p _ c.lines.count c.in-Err.refusal c.lines.invariant.works c.in-Err.ensures.works

pub lines-preserved : goal.lines-preserved
lines-preserved g c =
    record {
      works = works-next g.P.Stepper.did g.met.P.Stepper.goes_on c.args.p.now c.lines.p c.remove_alone.new.p c.args.lines.now _ c.lines.place 1 c.lines.count c.in-Ok.more
          (step-one c.lines.place c.args.lines.now)
          c.lines.invariant.works c.in-Ok.ensures.works;
      few = few-one c.in-Ok.more c.lines.count c.lines.place c.args.lines.now c.lines.invariant.few c.in-Ok.ensures.few;
    }
