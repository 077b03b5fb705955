use Rattle.std.proofs.Common.{◌≡◌}
use Rattle.inventory_fits.specs.Frames.{is_clear_after}
use Rattle.inventory_fits.proofs.neighbours.is_clear_of_all.Given as goal

abbrev pub invariant-held : goal.invariant-held
invariant-held l = is_clear_after l.moved l.number l.sequential l.segment l.there-iterator ≡ is_clear_after l.moved l.number l.sequential l.segment l.held.entries
