use Rattle.std.proofs.Common.{length, ◌-◌, ◌+◌, ◌≤◌, take, false}
use Rattle.steps.specs.Calls.{Call}
use Rattle.deletions.specs.Dropping.{Emptied}
use Rattle.deletions.proofs.copies.drop_all.Given as goal

-- the copies so far are handled, and at most one thing went for each
abbrev pub invariant-runs : goal.invariant-runs
invariant-runs g l = record {
  works : Call g.P.Stepper.did l.fn.p l.p (λ events. Emptied false l.file (take l.at l.lines) events l.so_far);
  few : l.so_far.discarded + l.so_far.dropped ≤ l.at;
  within : l.at ≤ length l.lines;
}

abbrev pub decreases-runs : goal.decreases-runs
decreases-runs g l = length l.lines - l.at
