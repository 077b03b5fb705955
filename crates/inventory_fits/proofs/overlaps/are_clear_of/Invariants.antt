use Rattle.std.proofs.Common.{◌≡◌, drop}
use Rattle.std.specs.List.{flat_map}
use Rattle.inventory_rows.specs.State.{inv_of}
use Rattle.inventory_fits.specs.Fitting.{are_clear_pair, lead}
use Rattle.inventory_fits.specs.Targets.{made}
use Rattle.inventory_fits.proofs.overlaps.are_clear_of.Given as goal

abbrev pub invariant-segments : goal.invariant-segments
invariant-segments g l =
    lead (are_clear_pair (made l.scratch (inv_of l.tables))) l.segments (flat_map g.T.Placed.segments l.items)
    ≡ lead (are_clear_pair (made l.scratch (inv_of l.tables))) (drop l.i l.segments) (flat_map g.T.Placed.segments l.items)
