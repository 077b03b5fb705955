use Rattle.std.proofs.Common.{◌≡◌, ℕ, ◌+◌, drop}
use Rattle.object_rows.specs.Tally.{kept_at, placed_in}
use Rattle.object_rows.proofs.pool_counts.PoolCounts.more.Given as goal

abbrev pub invariant-copies : goal.invariant-copies
invariant-copies l = (q : ℕ) → kept_at q l.counts + placed_in q (drop l.copy-index l.copies) ≡ kept_at q l.fn.self + placed_in q l.copies
