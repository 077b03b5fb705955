use Rattle.std.proofs.Common.{◌≡◌, ◌∙◌, ℕ, List, ap, subst}
use Rattle.inventory_rows.specs.object_rows.declared.held_object.HeldRow.{HeldRow}
use Rattle.inventory_rows.specs.object_rows.HeldRows.{held_versions}
use Rattle.inventory_rows.specs.version_groups.declared.copies.CopyRow.{CopyRow}
use Rattle.db_losses.specs.Losses.{all_gone, lost_of, lost_of_copies}
use Rattle.db_losses.proofs.Going.{held_more}
use Rattle.db_losses.proofs.gone.take_held.Goals as goal

pub held-preserved : goal.held-preserved
held-preserved c =
    let losses = c.args.losses.now in
    let day = c.args.day in
    let x = c.in-Some.row.now in
    held_more losses day (0, x) c.next.new.self c.args.held.now.entries c.args.pools.now c.held.pools c.take_copies.new.pools (c.take_copies.ensures ∙ ap (λ (l : List CopyRow). all_gone (lost_of_copies losses x.held.version.object l) day c.held.pools) c.as_slice.ensures.value)
    (subst (λ (left : List (ℕ × HeldRow)). all_gone (lost_of losses (held_versions left)) day c.held.pools ≡ all_gone (lost_of losses (held_versions c.args.held.now.entries)) day c.args.pools.now) c.in-Some.ensures.steps c.held.invariant)
