use Rattle.std.proofs.Common.{◌≡◌, ℕ, ◌+◌}
use Rattle.object_rows.specs.Tally.{kept_at, placed_in, weigh_filespaces}
use Rattle.object_rows.proofs.pool_counts.PoolCounts.more_filespaces.Given as goal

abbrev pub invariant-filespaces : goal.invariant-filespaces
invariant-filespaces l = (q : ℕ) → kept_at q l.counts + weigh_filespaces 0 (placed_in q) l.filespace-iterator ≡ kept_at q l.fn.self + weigh_filespaces 0 (placed_in q) l.filespaces.entries
