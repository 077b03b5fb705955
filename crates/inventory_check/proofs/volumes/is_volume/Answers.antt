use Rattle.std.proofs.Common.{ℕ, List, subst, ap, ◌∙◌}
use Rattle.std.specs.List.Sorted.{IsStrictlySortedBy}
use Rattle.std.specs.Map.{keys_of}
use Rattle.inventory_rows.specs.volume_rows.declared.held.HeldSegment.{HeldSegment}
use Rattle.inventory_rows.specs.volume_rows.Held.{held_cmp}
use Rattle.inventory_rows.specs.State.{inv_of}
use Rattle.inventory_check.specs.Laid.{row_agrees}
use Rattle.inventory_check.proofs.Lying.{volume_of_row}
use Rattle.inventory_check.proofs.volumes.is_volume.Goals as goal

pub returns : goal.returns
returns c =
    c.row_agrees.ensures ∙ ap (λ b. row_agrees (inv_of c.args.tables.now) b c.args.volume.now) c.is_sequential.ensures
    ∙ volume_of_row (inv_of c.args.tables.now) c.args.file c.args.volume.now c.requires (subst (λ (held : List (HeldSegment × ℕ)). IsStrictlySortedBy held_cmp (keys_of held)) c.as_map-held.ensures c.len-len.ensures.ordered)
