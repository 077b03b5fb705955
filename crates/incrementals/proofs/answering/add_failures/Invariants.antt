use Rattle.std.proofs.Common.{◌≡◌, ◌++◌, length}
use Rattle.incrementals.specs.Answering.{failures}
use Rattle.incrementals.proofs.answering.add_failures.Given as goal

-- those so far, and then those that are left, are all
abbrev pub invariant-lines : goal.invariant-lines
invariant-lines g l = l.failed.items ++ failures g.L.Pathed.path_of l.lines_left l.outs_left ≡ l.fn.failed.items ++ failures g.L.Pathed.path_of l.lines l.outs

abbrev pub decreases-lines : goal.decreases-lines
decreases-lines g l = length l.lines_left
