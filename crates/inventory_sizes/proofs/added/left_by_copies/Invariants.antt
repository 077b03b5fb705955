use Rattle.std.proofs.Common.{◌≡◌, ◌+◌, length, drop}
use Rattle.std.specs.List.{sum_by}
use Rattle.entries.specs.change_items.declared.items.NewCopy.{NewCopy}
use Rattle.inventory_rows.specs.object_rows.Items.{left}
use Rattle.inventory_sizes.proofs.added.left_by_copies.Given as goal

abbrev pub invariant-items : goal.invariant-items
invariant-items l = left (sum_by (λ (i : NewCopy). 1 + length i.segments) (drop l.item-index l.items)) l.rest ≡ left (sum_by (λ (i : NewCopy). 1 + length i.segments) l.items) l.fn.room
