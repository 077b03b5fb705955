use Rattle.std.proofs.Common.{arith, sym}
use Rattle.copy_attempts.proofs.Making.{goes-came, goes-stopped, goes-used, waits-more}
use Rattle.copy_attempts.proofs.attempt.try_all.Goals as goal

pub tries-preserved : goal.tries-preserved
tries-preserved g c = record {
  waited =
      waits-more g.P.Stepper.did g.met.P.Stepper.goes_on c.args.p.now c.tries.p c.try_once-came.new.p c.wait.new.self
      c.args.object c.args.aim c.args.avoid c.args.size c.tries.tries c.try_once-came.result c.in-Some.holder
      c.tries.invariant.waited c.try_once-came.ensures (sym c.in-Some.ensures) c.in-Ok.ensures;
  within = omega (arith, c.tries-test.true);
}

pub returns-in-Err : goal.returns-in-Err
returns-in-Err g c =
    goes-stopped g.P.Stepper.did g.met.P.Stepper.goes_on c.args.p.now c.tries.p c.try_once-came.new.p c.wait.new.self
    c.args.object c.args.aim c.args.avoid c.args.size c.tries.tries c.try_once-came.result c.in-Some.holder
    c.in-Err.refusal c.stopping.result c.tries.invariant.waited c.try_once-came.ensures (sym c.in-Some.ensures) c.in-Err.ensures c.stopping.ensures

pub returns-in-None : goal.returns-in-None
returns-in-None g c =
    goes-came g.P.Stepper.did g.met.P.Stepper.goes_on c.args.p.now c.tries.p c.try_once-came.new.p c.args.object c.args.aim c.args.avoid c.args.size c.tries.tries c.try_once-came.result
    c.tries.invariant.waited c.try_once-came.ensures (sym c.in-None.ensures)

pub returns : goal.returns
returns g c =
    goes-used g.P.Stepper.did g.met.P.Stepper.goes_on c.args.p.now c.tries.p c.args.object c.args.aim c.args.avoid c.args.size c.tries.tries (g.met.P.Stepper.stays c.tries.p)
    (omega (arith, c.tries-test.false, c.tries.invariant.within)) c.tries.invariant.waited
