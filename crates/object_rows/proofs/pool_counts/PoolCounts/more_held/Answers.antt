use Rattle.std.proofs.Common.{◌+◌, ℕ, List, sym, ap, ◌∙◌}
use Rattle.std.specs.Map.{values_of}
use Rattle.version_groups.specs.declared.copies.CopyRow.{CopyRow}
use Rattle.object_rows.specs.declared.held_object.HeldRow.{HeldRow}
use Rattle.object_rows.specs.HeldRows.{weigh_held}
use Rattle.object_rows.specs.Tally.{kept_at, placed_in}
use Rattle.object_rows.proofs.PoolLaws.{next_more}
use Rattle.object_rows.proofs.pool_counts.PoolCounts.more_held.Goals as goal

pub rows-preserved : goal.rows-preserved
rows-preserved c = λ q.
    next_more (λ (r : HeldRow). placed_in q r.held.version.copies) c.in-Some.row.now (values_of c.next.new.self) (kept_at q c.rows.counts) (kept_at q c.in-Some-more.next)
    (kept_at q c.args.self + weigh_held (placed_in q) c.args.held.now.entries)
    (c.in-Some-more.ensures q ∙ ap (λ (cs : List CopyRow). kept_at q c.rows.counts + placed_in q cs) c.as_slice.ensures.value)
    (ap (λ (left : List (ℕ × HeldRow)). kept_at q c.rows.counts + weigh_held (placed_in q) left) (sym c.in-Some.ensures.steps) ∙ c.rows.invariant q)
