use Rattle.std.proofs.Common.{◌∙◌, Bool, List, ap, not, sym}
use Rattle.std.specs.List.{list_any}
use Rattle.inventory_rows.specs.version_groups.declared.copies.CopyRow.{CopyRow}
use Rattle.db_losses.specs.Losses.{is_lost}
use Rattle.db_losses.proofs.Losing.{some_left}
use Rattle.db_losses.proofs.lost.is_left.Goals as goal

pub returns : goal.returns
returns c =
    let is_here : CopyRow → Bool = λ x. not (is_lost c.args.losses.now c.args.version.now.object x.pool) in
    c.is_one_left.ensures ∙ ap (λ (l : List CopyRow). list_any is_here l) c.as_slice.ensures.value ∙ sym (some_left is_here c.args.version.now.copies)
