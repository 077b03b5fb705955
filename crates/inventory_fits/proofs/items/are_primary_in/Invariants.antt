use Rattle.std.proofs.Common.{◌≡◌, drop}
use Rattle.inventory_rows.specs.State.{inv_of}
use Rattle.inventory_fits.specs.Fitting.{are_primary_in}
use Rattle.inventory_fits.proofs.items.are_primary_in.Given as goal

abbrev pub invariant-copies : goal.invariant-copies
invariant-copies l = are_primary_in (inv_of l.tables) l.from l.copies ≡ are_primary_in (inv_of l.tables) l.from (drop l.copy-index l.copies)
