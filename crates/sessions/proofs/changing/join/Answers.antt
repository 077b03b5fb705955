use Rattle.std.proofs.Common.{arith, sym}
use Rattle.sessions.specs.Changing.{Commits}
use Rattle.sessions.proofs.Trying.{obtains-came, obtains-stopped, obtains-used, waits-more}
use Rattle.steps.proofs.Joining.{does_made}
use Rattle.sessions.proofs.changing.join.Goals as goal

pub tries-preserved : goal.tries-preserved
tries-preserved g c = record {
  waited =
      waits-more g.P.Stepper.did g.met.P.Stepper.goes_on (Commits c.args.asked.now) c.args.p.now c.tries.p c.commit-answer.new.self c.wait.new.self c.tries.tries c.commit-answer.result c.in-Some.holder
      c.tries.invariant.waited (does_made g.P.Stepper.did c.tries.p c.commit-answer.new.self _ c.commit-answer.ensures) (sym c.in-Some.ensures) c.in-Ok.ensures;
  within = omega (arith, c.tries-test.true);
}

pub returns-in-Err : goal.returns-in-Err
returns-in-Err g c =
    obtains-stopped g.P.Stepper.did g.met.P.Stepper.goes_on (Commits c.args.asked.now) c.args.p.now c.tries.p c.commit-answer.new.self c.wait.new.self c.tries.tries c.commit-answer.result
    c.in-Some.holder c.in-Err.refusal c.tries.invariant.waited (does_made g.P.Stepper.did c.tries.p c.commit-answer.new.self _ c.commit-answer.ensures) (sym c.in-Some.ensures) c.in-Err.ensures

pub returns-in-None : goal.returns-in-None
returns-in-None g c =
    obtains-came g.P.Stepper.did g.met.P.Stepper.goes_on (Commits c.args.asked.now) c.args.p.now c.tries.p c.commit-answer.new.self c.tries.tries c.commit-answer.result
    c.tries.invariant.waited (does_made g.P.Stepper.did c.tries.p c.commit-answer.new.self _ c.commit-answer.ensures) (sym c.in-None.ensures)

pub returns : goal.returns
returns g c =
    obtains-used g.P.Stepper.did g.met.P.Stepper.goes_on (Commits c.args.asked.now) c.args.p.now c.tries.p c.tries.tries (g.met.P.Stepper.stays c.tries.p)
    (omega (arith, c.tries-test.false, c.tries.invariant.within)) c.tries.invariant.waited
