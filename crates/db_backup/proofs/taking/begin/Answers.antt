use Rattle.std.proofs.Common.{arith, sym}
use Rattle.sessions.proofs.Trying.{obtains-came, obtains-stopped, obtains-used, waits-more}
use Rattle.db_backup.specs.Taking.{Begins}
use Rattle.db_backup.proofs.taking.begin.Goals as goal

pub tries-preserved : goal.tries-preserved
tries-preserved g c = record {
  waited =
      waits-more g.P.Stepper.did g.met.P.Stepper.goes_on (Begins c.args.kind) c.args.p.now c.tries.p c.begin_once-answer.new.p c.wait.new.self c.tries.tries c.begin_once-answer.result c.in-Some.holder
      c.tries.invariant.waited c.begin_once-answer.ensures (sym c.in-Some.ensures) c.in-Ok.ensures;
  within = omega (arith, c.tries-test.true);
}

pub returns-in-Err : goal.returns-in-Err
returns-in-Err g c =
    obtains-stopped g.P.Stepper.did g.met.P.Stepper.goes_on (Begins c.args.kind) c.args.p.now c.tries.p c.begin_once-answer.new.p c.wait.new.self c.tries.tries c.begin_once-answer.result
    c.in-Some.holder c.in-Err.refusal c.tries.invariant.waited c.begin_once-answer.ensures (sym c.in-Some.ensures) c.in-Err.ensures

pub returns-in-None : goal.returns-in-None
returns-in-None g c =
    obtains-came g.P.Stepper.did g.met.P.Stepper.goes_on (Begins c.args.kind) c.args.p.now c.tries.p c.begin_once-answer.new.p c.tries.tries c.begin_once-answer.result
    c.tries.invariant.waited c.begin_once-answer.ensures (sym c.in-None.ensures)

pub returns : goal.returns
returns g c =
    obtains-used g.P.Stepper.did g.met.P.Stepper.goes_on (Begins c.args.kind) c.args.p.now c.tries.p c.tries.tries (g.met.P.Stepper.stays c.tries.p)
    (omega (arith, c.tries-test.false, c.tries.invariant.within)) c.tries.invariant.waited
