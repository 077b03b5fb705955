-- That the reuse was tried is looked for, and not cited: a body that tries none is refused for want of that fact.
use Rattle.std.proofs.Common.{arith, rules}
use Rattle.reuse_delay.proofs.Working.{one-ended, one-given-up, one-passed, one-reused, one-unwaited, waits-more}
use Rattle.reuse_delay.proofs.process.reuse_one.Goals as goal

pub tries-preserved : goal.tries-preserved
tries-preserved g c = record {
  waited =
      waits-more g.P.Stepper.did g.met.P.Stepper.goes_on c.args.p.now c.tries.p _ c.wait.new.self c.args.file c.in-Ok-Held.field-0 c.in-Ok-Held.holder
      c.in-Ok-Held.field-0-is c.tries.invariant.waited (search rules) c.in-Ok.ensures;
  within = omega (arith, c.tries-test.true);
}

pub returns-in-Ok-Reused-clause-works : goal.returns-in-Ok-Reused-clause-works
returns-in-Ok-Reused-clause-works g c =
    one-reused g.P.Stepper.did g.met.P.Stepper.goes_on c.args.p.now c.tries.p _ c.args.file c.in-Ok-Reused.field-0 c.in-Ok-Reused.field-0-is c.tries.invariant.waited (search rules)

pub returns-in-Ok-Passed-clause-works : goal.returns-in-Ok-Passed-clause-works
returns-in-Ok-Passed-clause-works g c =
    one-passed g.P.Stepper.did g.met.P.Stepper.goes_on c.args.p.now c.tries.p _ c.args.file c.in-Ok-Passed.field-0 c.in-Ok-Passed.field-0-is c.tries.invariant.waited (search rules)

pub returns-in-Err-clause-works : goal.returns-in-Err-clause-works
returns-in-Err-clause-works g c =
    one-ended g.P.Stepper.did g.met.P.Stepper.goes_on c.args.p.now c.tries.p _ c.args.file c.in-Err.refusal c.tries.invariant.waited (search rules)

pub returns-in-Err-wait-clause-works : goal.returns-in-Err-wait-clause-works
returns-in-Err-wait-clause-works g c =
    one-unwaited g.P.Stepper.did g.met.P.Stepper.goes_on c.args.p.now c.tries.p _ c.wait.new.self c.args.file c.in-Ok-Held.field-0 c.in-Ok-Held.holder
    c.in-Err-wait.refusal c.stopping.result c.in-Ok-Held.field-0-is c.stopping.ensures c.tries.invariant.waited (search rules) c.in-Err-wait.ensures

pub returns-clause-works : goal.returns-clause-works
returns-clause-works g c = one-given-up g.P.Stepper.did c.args.p.now c.tries.p c.args.file c.tries.invariant.waited
