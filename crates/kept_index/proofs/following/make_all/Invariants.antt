use Rattle.std.proofs.Common.{ℕ, List, drop}
use Rattle.kinds.specs.declared.segment.Segment.{Segment}
use Rattle.pool_rows.specs.PoolRows.{PoolRows}
use Rattle.space.specs.Claims.{Claims}
use Rattle.kept_index.specs.Following.{Remains}
use Rattle.kept_index.proofs.following.make_all.Given as goal

abbrev pub invariant-volumes : goal.invariant-volumes
invariant-volumes l = (c : Claims) (full : PoolRows) (es : List (ℕ × Segment)) → Remains l.initial.index c l.scratch es full l.pools → Remains l.index c (drop l.volume-index l.scratch) es full l.pools
