use Rattle.std.proofs.Common.{◌≡◌, drop}
use Rattle.inventory_bytes.specs.Segments.{filled, of_copies}
use Rattle.inventory_bytes.proofs.segments.put_copies.Given as goal

abbrev pub invariant-copies : goal.invariant-copies
invariant-copies l = filled (of_copies l.object (drop l.copy-index l.copies)) l.volumes.entries ≡ filled (of_copies l.object l.copies) l.fn.volumes.entries
