use Rattle.std.proofs.Common.{◌≡◌, drop}
use Rattle.std.specs.List.{sum_by}
use Rattle.inventory_rules.specs.Versions.{items_of_new_held}
use Rattle.inventory_rows.specs.object_rows.Items.{left}
use Rattle.inventory_sizes.proofs.added.left_by_objects.Given as goal

abbrev pub invariant-items : goal.invariant-items
invariant-items l = left (sum_by items_of_new_held (drop l.item-index l.items)) l.rest ≡ left (sum_by items_of_new_held l.items) l.fn.room
