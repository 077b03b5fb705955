use Rattle.std.proofs.Common.{◌≡◌, ◌≤◌, ◌+◌, length}
use Rattle.incrementals.specs.Answering.{committed}
use Rattle.incrementals.proofs.answering.committed.Given as goal

-- those so far, and then those that are left, are all
abbrev pub invariant-outs : goal.invariant-outs
invariant-outs l = record {
  whole : l.count + committed l.left ≡ committed l.outs;
  few : l.count + length l.left ≤ length l.outs;
}

abbrev pub decreases-outs : goal.decreases-outs
decreases-outs l = length l.left
