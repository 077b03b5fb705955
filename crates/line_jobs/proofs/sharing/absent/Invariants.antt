use Rattle.std.proofs.Common.{◌≡◌, ◌≤◌}
use Rattle.std.specs.Prelude.{replicate, vec_capacity, vec_len}
use Rattle.line_jobs.specs.declared.lent.Lent.TheVariants.{Away}
use Rattle.line_jobs.proofs.sharing.absent.Given as goal

-- so many places so far
abbrev pub invariant-trees : goal.invariant-trees
invariant-trees g l = (l.trees.items ≡ replicate l.at (Away 0)) × (vec_len l.trees ≡ l.at) × (l.many ≤ vec_capacity l.trees)
