use Rattle.std.proofs.Common.{◌+◌, ℕ, List, sym, ap, ◌∙◌}
use Rattle.std.specs.Map.{values_of}
use Rattle.version_groups.specs.declared.group.Group.{Group}
use Rattle.version_groups.specs.declared.groups.Filespace.{Filespace}
use Rattle.object_rows.specs.Tally.{kept_at, placed_in, weigh_filespaces, weigh_groups}
use Rattle.object_rows.proofs.PoolLaws.{next_more}
use Rattle.object_rows.proofs.pool_counts.PoolCounts.more_filespaces.Goals as goal

pub filespaces-preserved : goal.filespaces-preserved
filespaces-preserved c = λ q.
    next_more (λ (f : Filespace). weigh_groups 0 (placed_in q) f.groups) c.in-Some.filespace.now (values_of c.next.new.self) (kept_at q c.filespaces.counts) (kept_at q c.in-Some-more_groups.next)
    (kept_at q c.args.self + weigh_filespaces 0 (placed_in q) c.args.filespaces.now.entries)
    (c.in-Some-more_groups.ensures q ∙ ap (λ (gs : List (List ℕ × Group)). kept_at q c.filespaces.counts + weigh_groups 0 (placed_in q) gs) c.as_map.ensures.value)
    (ap (λ (left : List (ℕ × Filespace)). kept_at q c.filespaces.counts + weigh_filespaces 0 (placed_in q) left) (sym c.in-Some.ensures.steps) ∙ c.filespaces.invariant q)
