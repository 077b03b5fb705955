use Rattle.std.proofs.Common.{◌≤◌, ◌+◌, take, false}
use Rattle.steps.specs.Calls.{Call}
use Rattle.deletions.specs.Dropping.{Emptied}
use Rattle.deletions.proofs.copies.one_by_one.Given as goal

-- the copies so far are handled, and at most one thing went for each
abbrev pub invariant-lines : goal.invariant-lines
invariant-lines g l = record {
  works : Call g.P.Stepper.did l.fn.p l.p (λ events. Emptied false l.file (take l.place l.lines) events l.so_far);
  few : l.so_far.discarded + l.so_far.dropped ≤ l.place;
}
