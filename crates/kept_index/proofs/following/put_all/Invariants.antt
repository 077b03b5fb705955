use Rattle.std.proofs.Common.{ℕ, List, [], ◌++◌, drop}
use Rattle.kinds.specs.declared.segment.Segment.{Segment}
use Rattle.pool_rows.specs.PoolRows.{PoolRows}
use Rattle.space.specs.Claims.{Claims}
use Rattle.kept_index.specs.Following.{Remains}
use Rattle.kept_index.specs.Steps.{of_object}
use Rattle.kept_index.proofs.following.put_all.Given as goal

abbrev pub invariant-segments : goal.invariant-segments
invariant-segments l = (c : Claims) (full : PoolRows) (es : List (ℕ × Segment)) → Remains l.initial.index c [] (of_object (l.object, l.segments) ++ es) full l.pools → Remains l.index c [] (of_object (l.object, drop l.segment-index l.segments) ++ es) full l.pools
