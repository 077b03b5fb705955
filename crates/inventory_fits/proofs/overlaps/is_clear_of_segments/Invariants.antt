use Rattle.std.proofs.Common.{◌≡◌, drop}
use Rattle.std.specs.List.{list_all}
use Rattle.inventory_fits.specs.Fitting.{are_clear_by}
use Rattle.inventory_fits.proofs.overlaps.is_clear_of_segments.Given as goal

abbrev pub invariant-others : goal.invariant-others
invariant-others l = list_all (are_clear_by l.sequential l.segment) l.others ≡ list_all (are_clear_by l.sequential l.segment) (drop l.other-index l.others)
