use Rattle.std.proofs.Common.{◌≡◌, drop}
use Rattle.inventory_rows.specs.State.{inv_of}
use Rattle.inventory_fits.specs.Fitting.{all_lead, are_clear_pair}
use Rattle.inventory_fits.specs.Targets.{made}
use Rattle.inventory_fits.proofs.overlaps.are_items_clear.Given as goal

abbrev pub invariant-items : goal.invariant-items
invariant-items g l =
    all_lead (are_clear_pair (made l.scratch (inv_of l.tables))) g.T.Placed.segments l.items
    ≡ all_lead (are_clear_pair (made l.scratch (inv_of l.tables))) g.T.Placed.segments (drop l.i l.items)
