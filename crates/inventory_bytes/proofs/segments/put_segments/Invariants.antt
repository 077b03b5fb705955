use Rattle.std.proofs.Common.{◌≡◌, drop}
use Rattle.inventory_bytes.specs.Segments.{filled, of_segments}
use Rattle.inventory_bytes.proofs.segments.put_segments.Given as goal

abbrev pub invariant-segments : goal.invariant-segments
invariant-segments l = filled (of_segments l.object (drop l.segment-index l.segments)) l.volumes.entries ≡ filled (of_segments l.object l.segments) l.fn.volumes.entries
