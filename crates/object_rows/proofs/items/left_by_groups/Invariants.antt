use Rattle.std.proofs.Common.{◌≡◌}
use Rattle.std.specs.List.{sum_by}
use Rattle.object_rows.specs.Items.{items_of_group, left}
use Rattle.object_rows.proofs.items.left_by_groups.Given as goal

abbrev pub invariant-groups : goal.invariant-groups
invariant-groups l = left (sum_by (λ g. items_of_group g.1) l.group-iterator) l.rest ≡ left (sum_by (λ g. items_of_group g.1) l.groups.entries) l.fn.room
