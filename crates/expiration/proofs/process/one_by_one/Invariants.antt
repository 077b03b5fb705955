use Rattle.std.proofs.Common.{◌≤◌, take}
use Rattle.steps.specs.Calls.{Call}
use Rattle.expiration.specs.Expiring.{Handled}
use Rattle.expiration.proofs.process.one_by_one.Given as goal

-- the objects so far are handled, and at most one was removed for each
abbrev pub invariant-lines : goal.invariant-lines
invariant-lines g l = record {
  works : Call g.P.Stepper.did l.fn.p l.p (λ events. Handled (take l.place l.lines) events l.count);
  few : l.count ≤ l.place;
}
