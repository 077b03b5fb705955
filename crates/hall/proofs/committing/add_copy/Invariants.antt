use Rattle.std.proofs.Common.{◌≡◌, ◌++◌, drop, map}
use Rattle.kinds.specs.declared.segment.Segment.{Segment}
use Rattle.hall.specs.Joined.{placed_of}
use Rattle.hall.proofs.committing.add_copy.Given as goal

abbrev pub invariant-segments : goal.invariant-segments
invariant-segments l = l.out.items ++ map (λ (s : Segment). record { pool = l.pool; segment = s }) (drop l.segment-index l.segment-items) ≡ l.initial.out.items ++ placed_of l.copy
