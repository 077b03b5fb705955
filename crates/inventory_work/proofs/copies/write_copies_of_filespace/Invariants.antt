use Rattle.std.proofs.Common.{◌≡◌, ◌++◌}
use Rattle.std.specs.List.{flat_map}
use Rattle.inventory_work.specs.Copies.{copies_of_group}
use Rattle.inventory_work.proofs.copies.write_copies_of_filespace.Given as goal

abbrev pub invariant-groups : goal.invariant-groups
invariant-groups l =
    l.lines.items ++ flat_map (λ g. copies_of_group l.here l.filespace.node g.1) l.group-iterator ≡ l.fn.lines.items ++ flat_map (λ g. copies_of_group l.here l.filespace.node g.1) l.filespace.groups
