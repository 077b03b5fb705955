use Rattle.std.proofs.Common.{◌≡◌, length, drop}
use Rattle.std.specs.List.{sum_by}
use Rattle.entries.specs.change_items.declared.items.MovedCopy.{MovedCopy}
use Rattle.inventory_rows.specs.object_rows.Items.{left}
use Rattle.inventory_sizes.proofs.added.left_by_moved.Given as goal

abbrev pub invariant-items : goal.invariant-items
invariant-items l = left (sum_by (λ (i : MovedCopy). length i.segments) (drop l.item-index l.items)) l.rest ≡ left (sum_by (λ (i : MovedCopy). length i.segments) l.items) l.fn.room
