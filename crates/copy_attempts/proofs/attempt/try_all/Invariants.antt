use Rattle.std.proofs.Common.{◌≤◌, ◌-◌, ◌^◌}
use Rattle.steps.specs.Calls.{Call}
use Rattle.copy_attempts.specs.Attempts.{Waited}
use Rattle.copy_attempts.proofs.attempt.try_all.Given as goal

-- so many tries found the room held
abbrev pub invariant-tries : goal.invariant-tries
invariant-tries g l = record {
  waited : Call g.P.Stepper.did l.fn.p l.p (λ events. Waited l.fn.object l.fn.aim l.fn.avoid l.fn.size l.tries events);
  within : l.tries ≤ 2 ^ 64 - 1;
}

abbrev pub decreases-tries : goal.decreases-tries
decreases-tries g l = 2 ^ 64 - l.tries
