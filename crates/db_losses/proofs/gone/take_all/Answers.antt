use Rattle.std.proofs.Common.{◌∙◌, ℕ, List, ap}
use Rattle.inventory_rows.specs.version_groups.declared.groups.Filespace.{Filespace}
use Rattle.inventory_rows.specs.object_rows.declared.held_object.HeldRow.{HeldRow}
use Rattle.inventory_rows.specs.object_rows.Filespaces.{versions_of}
use Rattle.inventory_rows.specs.object_rows.HeldRows.{held_versions}
use Rattle.db_losses.specs.Losses.{all_gone, lost_of}
use Rattle.db_losses.proofs.Going.{all_kept_gone}
use Rattle.db_losses.proofs.gone.take_all.Goals as goal

pub returns : goal.returns
returns c =
    let losses = c.args.losses.now in
    let day = c.args.day in
    let rows = c.args.objects.now in
    let pools = c.args.pools.now in
    c.take_held.ensures
    ∙ ap (λ (l : List (ℕ × HeldRow)). all_gone (lost_of losses (held_versions l)) day c.take_filespaces.new.pools) c.held.ensures.value
    ∙ ap (all_gone (lost_of losses (held_versions rows.held)) day) (c.take_filespaces.ensures ∙ ap (λ (l : List (ℕ × Filespace)). all_gone (lost_of losses (versions_of l)) day pools) c.filespaces.ensures.value)
    ∙ all_kept_gone losses day rows.filespaces rows.held pools
