use Rattle.std.proofs.Common.{arith, rules}
use Rattle.reuse_delay.proofs.Working.{few-more, works-break, works-next}
use Rattle.reuse_delay.proofs.process.reuse_all.Goals as goal

pub returns-in-Err : goal.returns-in-Err
returns-in-Err g c =
    works-break g.P.Stepper.did g.met.P.Stepper.goes_on c.args.p.now c.files.p c.reuse_one.new.p c.args.files.now c.files.place _ c.files.count c.in-Err.refusal
    (omega (arith, c.files-test.true)) (search rules) c.files.invariant.worked c.in-Err.ensures.works

pub files-preserved : goal.files-preserved
files-preserved g c = record {
  worked = works-next g.P.Stepper.did g.met.P.Stepper.goes_on c.args.p.now c.files.p c.reuse_one.new.p c.args.files.now c.files.place _ c.files.count c.in-Ok.more
      (omega (arith, c.files-test.true)) (search rules) c.files.invariant.worked c.in-Ok.ensures.works;
  few = few-more c.in-Ok.more c.files.count c.files.place c.files.invariant.few c.in-Ok.ensures.few;
}
