use Rattle.std.proofs.Common.{◌≡◌, drop}
use Rattle.inventory_rows.specs.State.{inv_of}
use Rattle.inventory_fits.specs.Fitting.{has_primary}
use Rattle.inventory_fits.proofs.items.has_primary.Given as goal

abbrev pub invariant-copies : goal.invariant-copies
invariant-copies l = has_primary (inv_of l.tables) l.copies ≡ has_primary (inv_of l.tables) (drop l.copy-index l.copies)
