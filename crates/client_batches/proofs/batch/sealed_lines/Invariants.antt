use Rattle.std.proofs.Common.{◌≡◌, ◌++◌, length}
use Rattle.client_batches.specs.Batches.{sealed_lines}
use Rattle.client_batches.proofs.batch.sealed_lines.Given as goal

-- those so far, and then those that are left, are all
abbrev pub invariant-lines : goal.invariant-lines
invariant-lines l = l.rows.items ++ sealed_lines l.lines_left l.came_left ≡ sealed_lines l.lines l.came

abbrev pub decreases-lines : goal.decreases-lines
decreases-lines l = length l.lines_left
