use Rattle.std.proofs.Common.{◌≡◌, drop}
use Rattle.std.specs.List.{list_all}
use Rattle.inventory_rows.specs.State.{inv_of}
use Rattle.inventory_fits.specs.Targets.{made}
use Rattle.inventory_fits.proofs.items.each_fits.Given as goal

abbrev pub invariant-items : goal.invariant-items
invariant-items g l = list_all (g.T.Fitted.fits l.items (made l.scratch (inv_of l.tables))) l.items ≡ list_all (g.T.Fitted.fits l.items (made l.scratch (inv_of l.tables))) (drop l.item-index l.items)
