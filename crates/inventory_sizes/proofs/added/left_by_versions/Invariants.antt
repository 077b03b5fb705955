use Rattle.std.proofs.Common.{◌≡◌, drop}
use Rattle.std.specs.List.{sum_by}
use Rattle.inventory_rules.specs.Versions.{items_of_new}
use Rattle.inventory_rows.specs.object_rows.Items.{left}
use Rattle.inventory_sizes.proofs.added.left_by_versions.Given as goal

abbrev pub invariant-items : goal.invariant-items
invariant-items l = left (sum_by items_of_new (drop l.item-index l.items)) l.rest ≡ left (sum_by items_of_new l.items) l.fn.room
