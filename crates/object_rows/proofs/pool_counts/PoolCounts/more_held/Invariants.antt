use Rattle.std.proofs.Common.{◌≡◌, ℕ, ◌+◌}
use Rattle.object_rows.specs.HeldRows.{weigh_held}
use Rattle.object_rows.specs.Tally.{kept_at, placed_in}
use Rattle.object_rows.proofs.pool_counts.PoolCounts.more_held.Given as goal

abbrev pub invariant-rows : goal.invariant-rows
invariant-rows l = (q : ℕ) → kept_at q l.counts + weigh_held (placed_in q) l.row-iterator ≡ kept_at q l.fn.self + weigh_held (placed_in q) l.held.entries
