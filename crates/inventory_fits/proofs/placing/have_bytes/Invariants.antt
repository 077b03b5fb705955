use Rattle.std.proofs.Common.{◌≡◌, drop}
use Rattle.inventory_fits.specs.Sizes.{have_bytes}
use Rattle.inventory_fits.proofs.placing.have_bytes.Given as goal

abbrev pub invariant-segments : goal.invariant-segments
invariant-segments l = have_bytes l.size l.segments ≡ have_bytes l.left (drop l.segment-index l.segments)
