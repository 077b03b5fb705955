use Rattle.std.proofs.Common.{◌≡◌, ◌+◌, drop}
use Rattle.version_groups.specs.Copies.{place_of}
use Rattle.version_groups.proofs.copies.place_of.Given as goal

abbrev pub invariant-copies : goal.invariant-copies
invariant-copies l = place_of l.pool l.copies ≡ place_of l.pool (drop l.i l.copies) + l.i
