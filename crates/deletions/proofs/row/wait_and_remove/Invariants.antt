use Rattle.std.proofs.Common.{◌≤◌, ◌-◌, ◌^◌}
use Rattle.steps.specs.Calls.{Call}
use Rattle.deletions.specs.Volumes.{Waited}
use Rattle.deletions.proofs.row.wait_and_remove.Given as goal

-- so many times something was held, and each time the wait was over
abbrev pub invariant-tries : goal.invariant-tries
invariant-tries g l = record {
  waited : Call g.P.Stepper.did l.fn.p l.p (λ events. Waited l.asked l.tries events);
  within : l.tries ≤ 2 ^ 64 - 1;
}

abbrev pub decreases-tries : goal.decreases-tries
decreases-tries g l = 2 ^ 64 - l.tries
