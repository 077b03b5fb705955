use Rattle.std.proofs.Common.{◌≡◌, ℕ, ◌+◌, drop}
use Rattle.object_rows.specs.Tally.{kept_at, placed_in, weigh}
use Rattle.object_rows.proofs.pool_counts.PoolCounts.more_versions.Given as goal

abbrev pub invariant-versions : goal.invariant-versions
invariant-versions l = (q : ℕ) → kept_at q l.counts + weigh (placed_in q) (drop l.version-index l.versions) ≡ kept_at q l.fn.self + weigh (placed_in q) l.versions
