use Rattle.std.proofs.Common.{◌≡◌, drop}
use Rattle.std.specs.Prelude.{◌==◌}
use Rattle.std.specs.List.{sum_by}
use Rattle.kinds.specs.declared.segment.Segment.{Segment}
use Rattle.inventory_check.proofs.versions.have_size.Given as goal

abbrev pub invariant-segments : goal.invariant-segments
invariant-segments l = (sum_by (λ (s : Segment). s.len) (drop l.segment-index l.segments) == l.left) ≡ (sum_by (λ (s : Segment). s.len) l.segments == l.fn.size)
