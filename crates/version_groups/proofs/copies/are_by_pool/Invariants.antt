use Rattle.std.proofs.Common.{◌≡◌, drop}
use Rattle.version_groups.specs.Copies.{are_by_pool}
use Rattle.version_groups.proofs.copies.are_by_pool.Given as goal

abbrev pub invariant-copies : goal.invariant-copies
invariant-copies l = are_by_pool l.copies ≡ are_by_pool (drop l.i l.copies)
