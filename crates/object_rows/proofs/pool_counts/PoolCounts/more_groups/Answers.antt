use Rattle.std.proofs.Common.{◌+◌, ℕ, List, sym, ap, ◌∙◌}
use Rattle.std.specs.Map.{values_of}
use Rattle.version_groups.specs.declared.group.Group.{Group}
use Rattle.version_groups.specs.declared.versions.Version.{Version}
use Rattle.object_rows.specs.Tally.{kept_at, placed_in, weigh, weigh_group, weigh_groups}
use Rattle.object_rows.proofs.PoolLaws.{next_more, nothing_first}
use Rattle.object_rows.proofs.pool_counts.PoolCounts.more_groups.Goals as goal

pub groups-preserved : goal.groups-preserved
groups-preserved c = λ q.
    next_more (weigh_group 0 (placed_in q)) c.in-Some.group.now (values_of c.next.new.self) (kept_at q c.groups.counts) (kept_at q c.in-Some-more_versions.next)
    (kept_at q c.args.self + weigh_groups 0 (placed_in q) c.args.groups.now.entries)
    (c.in-Some-more_versions.ensures q ∙ ap (λ (vs : List Version). kept_at q c.groups.counts + weigh (placed_in q) vs) c.as_slice.ensures.value
    ∙ ap (λ n. kept_at q c.groups.counts + n) (sym (nothing_first (weigh (placed_in q) c.in-Some.group.now.versions))))
    (ap (λ (left : List (List ℕ × Group)). kept_at q c.groups.counts + weigh_groups 0 (placed_in q) left) (sym c.in-Some.ensures.steps) ∙ c.groups.invariant q)
