use Rattle.std.proofs.Common.{◌≡◌, ◌++◌}
use Rattle.std.specs.List.{flat_map}
use Rattle.inventory_work.specs.Copies.{missing_of_group}
use Rattle.inventory_work.proofs.copies.write_missing_of_filespace.Given as goal

abbrev pub invariant-groups : goal.invariant-groups
invariant-groups l =
    l.lines.items ++ flat_map (λ g. missing_of_group l.primary l.copy g.1) l.group-iterator ≡ l.fn.lines.items ++ flat_map (λ g. missing_of_group l.primary l.copy g.1) l.filespace.groups
