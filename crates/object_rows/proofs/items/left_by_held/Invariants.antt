use Rattle.std.proofs.Common.{◌≡◌}
use Rattle.object_rows.specs.Items.{items_of_held, left}
use Rattle.object_rows.proofs.items.left_by_held.Given as goal

abbrev pub invariant-rows : goal.invariant-rows
invariant-rows l = left (items_of_held l.row-iterator) l.rest ≡ left (items_of_held l.held.entries) l.fn.room
