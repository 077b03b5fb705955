use Rattle.std.proofs.Common.{◌≡◌, ◌∙◌, ℕ, List, ap, subst}
use Rattle.inventory_rows.specs.version_groups.declared.groups.Filespace.{Filespace}
use Rattle.inventory_rows.specs.version_groups.declared.group.Group.{Group}
use Rattle.inventory_rows.specs.object_rows.Filespaces.{versions_of}
use Rattle.db_losses.specs.Losses.{all_gone, lost_of, lost_of_groups}
use Rattle.db_losses.proofs.Going.{filespace_more}
use Rattle.db_losses.proofs.gone.take_filespaces.Goals as goal

pub filespaces-preserved : goal.filespaces-preserved
filespaces-preserved c =
    let losses = c.args.losses.now in
    let day = c.args.day in
    let x = c.in-Some.filespace.now in
    filespace_more losses day (0, x) c.next.new.self c.args.filespaces.now.entries c.args.pools.now c.filespaces.pools c.take_groups.new.pools (c.take_groups.ensures ∙ ap (λ (l : List (List ℕ × Group)). all_gone (lost_of_groups losses l) day c.filespaces.pools) c.as_map.ensures.value)
    (subst (λ (left : List (ℕ × Filespace)). all_gone (lost_of losses (versions_of left)) day c.filespaces.pools ≡ all_gone (lost_of losses (versions_of c.args.filespaces.now.entries)) day c.args.pools.now) c.in-Some.ensures.steps c.filespaces.invariant)
