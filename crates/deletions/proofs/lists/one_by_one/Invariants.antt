use Rattle.std.proofs.Common.{◌≤◌, take}
use Rattle.steps.specs.Calls.{Call}
use Rattle.deletions.specs.Discarding.{Handled}
use Rattle.deletions.proofs.lists.one_by_one.Given as goal

-- the objects so far are handled, and at most one was discarded for each
abbrev pub invariant-objects : goal.invariant-objects
invariant-objects g l = record {
  works : Call g.P.Stepper.did l.fn.p l.p (λ events. Handled l.reason (take l.place l.objects) events l.count);
  few : l.count ≤ l.place;
}
