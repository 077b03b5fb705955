use Rattle.std.proofs.Common.{◌≡◌, ◌++◌}
use Rattle.std.specs.List.{flat_map}
use Rattle.inventory_answers.specs.Policy.{group_lines_of}
use Rattle.inventory_answers.proofs.policy.group_lines.Given as goal

abbrev pub invariant-classes : goal.invariant-classes
invariant-classes l =
    l.lines.items ++ flat_map (group_lines_of l.domain l.set l.pools) l.name-iterator ≡ flat_map (group_lines_of l.domain l.set l.pools) l.row.classes
