use Rattle.std.proofs.Common.{◌≡◌, drop}
use Rattle.inventory_fits.specs.Fitting.{has_other}
use Rattle.inventory_fits.proofs.items.has_other.Given as goal

abbrev pub invariant-copies : goal.invariant-copies
invariant-copies l = has_other l.from l.pool l.copies ≡ has_other l.from l.pool (drop l.copy-index l.copies)
