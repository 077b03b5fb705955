use Rattle.std.proofs.Common.{◌≡◌, ℕ, ◌+◌}
use Rattle.object_rows.specs.Tally.{kept_at, placed_in, weigh_groups}
use Rattle.object_rows.proofs.pool_counts.PoolCounts.more_groups.Given as goal

abbrev pub invariant-groups : goal.invariant-groups
invariant-groups l = (q : ℕ) → kept_at q l.counts + weigh_groups 0 (placed_in q) l.group-iterator ≡ kept_at q l.fn.self + weigh_groups 0 (placed_in q) l.groups.entries
