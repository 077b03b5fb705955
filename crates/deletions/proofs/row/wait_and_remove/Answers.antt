-- That the transaction was tried is looked for, and not cited: a body that tries none is refused for want of that fact.
use Rattle.std.proofs.Common.{arith, rules}
use Rattle.deletions.proofs.Waiting.{row-given-up, row-unwaited, row-was-kept, row-went, waits-again}
use Rattle.deletions.proofs.row.wait_and_remove.Goals as goal

pub tries-preserved : goal.tries-preserved
tries-preserved g c = record {
  waited =
      waits-again g.P.Stepper.did g.met.P.Stepper.goes_on c.args.p.now c.tries.p _ c.wait.new.self c.args.asked.now c.tries.tries c.in-Ok-Held.field-0 c.in-Ok-Held.holder
      c.in-Ok-Held.field-0-is c.tries.invariant.waited (search rules) c.in-Ok.ensures;
  within = omega (arith, c.tries-test.true);
}

pub returns-in-Ok-Gone : goal.returns-in-Ok-Gone
returns-in-Ok-Gone g c =
    row-went g.P.Stepper.did g.met.P.Stepper.goes_on c.args.p.now c.tries.p _ c.args.asked.now c.tries.tries c.in-Ok-Gone.field-0 c.in-Ok-Gone.field-0-is c.tries.invariant.waited (search rules)

pub returns-in-Err : goal.returns-in-Err
returns-in-Err g c =
    row-was-kept g.P.Stepper.did g.met.P.Stepper.goes_on c.args.p.now c.tries.p _ c.args.asked.now c.tries.tries c.in-Err.refusal c.tries.invariant.waited (search rules)

pub returns-in-Err-wait : goal.returns-in-Err-wait
returns-in-Err-wait g c =
    row-unwaited g.P.Stepper.did g.met.P.Stepper.goes_on c.args.p.now c.tries.p _ c.wait.new.self c.args.asked.now c.tries.tries c.in-Ok-Held.field-0 c.in-Ok-Held.holder
    c.in-Err-wait.refusal c.stopping.result c.in-Ok-Held.field-0-is c.stopping.ensures c.tries.invariant.waited (search rules) c.in-Err-wait.ensures

pub returns : goal.returns
returns g c = row-given-up g.P.Stepper.did c.args.p.now c.tries.p c.args.asked.now c.tries.tries c.tries.invariant.waited
