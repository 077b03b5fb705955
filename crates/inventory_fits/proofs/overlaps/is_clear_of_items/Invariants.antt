use Rattle.std.proofs.Common.{◌≡◌, drop}
use Rattle.std.specs.List.{list_all, flat_map}
use Rattle.inventory_fits.specs.Fitting.{are_clear_by}
use Rattle.inventory_fits.proofs.overlaps.is_clear_of_items.Given as goal

abbrev pub invariant-items : goal.invariant-items
invariant-items g l = list_all (are_clear_by l.sequential l.segment) (flat_map g.T.Placed.segments l.items) ≡ list_all (are_clear_by l.sequential l.segment) (flat_map g.T.Placed.segments (drop l.item-index l.items))
