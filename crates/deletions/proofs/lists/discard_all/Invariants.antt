use Rattle.std.proofs.Common.{length, ◌-◌, ◌≤◌, take}
use Rattle.steps.specs.Calls.{Call}
use Rattle.deletions.specs.Discarding.{Handled}
use Rattle.deletions.proofs.lists.discard_all.Given as goal

-- the objects so far are handled, and at most one was discarded for each
abbrev pub invariant-runs : goal.invariant-runs
invariant-runs g l = record {
  works : Call g.P.Stepper.did l.fn.p l.p (λ events. Handled l.reason (take l.at l.objects) events l.count);
  few : l.count ≤ l.at;
  within : l.at ≤ length l.objects;
}

abbrev pub decreases-runs : goal.decreases-runs
decreases-runs g l = length l.objects - l.at
