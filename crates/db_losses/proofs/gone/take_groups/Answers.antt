use Rattle.std.proofs.Common.{◌≡◌, ◌∙◌, ℕ, List, [], ap, subst}
use Rattle.inventory_rows.specs.version_groups.declared.group.Group.{Group}
use Rattle.inventory_rows.specs.version_groups.declared.versions.Version.{Version}
use Rattle.db_losses.specs.Losses.{all_gone, lost_of, lost_of_groups}
use Rattle.db_losses.proofs.Going.{group_more}
use Rattle.db_losses.proofs.gone.take_groups.Goals as goal

pub groups-preserved : goal.groups-preserved
groups-preserved c =
    let losses = c.args.losses.now in
    let day = c.args.day in
    let x = c.in-Some.group.now in
    group_more losses day ([], x) c.next.new.self c.args.groups.now.entries c.args.pools.now c.groups.pools c.take_versions.new.pools (c.take_versions.ensures ∙ ap (λ (l : List Version). all_gone (lost_of losses l) day c.groups.pools) c.as_slice.ensures.value)
    (subst (λ (left : List (List ℕ × Group)). all_gone (lost_of_groups losses left) day c.groups.pools ≡ all_gone (lost_of_groups losses c.args.groups.now.entries) day c.args.pools.now) c.in-Some.ensures.steps c.groups.invariant)
