use Rattle.std.proofs.Common.{◌≡◌, drop}
use Rattle.blocks.specs.Trees.{first_job}
use Rattle.blocks.proofs.trees.first_job.Given as goal

abbrev pub invariant-lines : goal.invariant-lines
invariant-lines l = first_job l.tree (drop l.line-index l.lines) ≡ first_job l.tree l.lines
