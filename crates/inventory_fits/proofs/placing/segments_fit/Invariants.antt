use Rattle.std.proofs.Common.{◌≡◌, drop}
use Rattle.std.specs.List.{list_all}
use Rattle.inventory_rows.specs.State.{inv_of}
use Rattle.inventory_fits.specs.Fitting.{segment_fits_at}
use Rattle.inventory_fits.proofs.placing.segments_fit.Given as goal

abbrev pub invariant-segments : goal.invariant-segments
invariant-segments l = list_all (segment_fits_at l.moved l.scratch (inv_of l.tables) l.number) l.segments ≡ list_all (segment_fits_at l.moved l.scratch (inv_of l.tables) l.number) (drop l.segment-index l.segments)
