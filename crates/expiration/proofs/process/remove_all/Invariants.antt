use Rattle.std.proofs.Common.{length, ◌-◌, ◌≤◌, take}
use Rattle.steps.specs.Calls.{Call}
use Rattle.expiration.specs.Expiring.{Handled}
use Rattle.expiration.proofs.process.remove_all.Given as goal

-- the objects so far are handled, and at most one was removed for each
abbrev pub invariant-runs : goal.invariant-runs
invariant-runs g l = record {
  works : Call g.P.Stepper.did l.fn.p l.p (λ events. Handled (take l.at l.lines) events l.count);
  few : l.count ≤ l.at;
  within : l.at ≤ length l.lines;
}

abbrev pub decreases-runs : goal.decreases-runs
decreases-runs g l = length l.lines - l.at
