use Rattle.std.proofs.Common.{◌≡◌, ◌++◌}
use Rattle.std.specs.Prelude.{map}
use Rattle.inventory_answers.specs.Policy.{class_line}
use Rattle.inventory_answers.proofs.policy.class_lines.Given as goal

abbrev pub invariant-classes : goal.invariant-classes
invariant-classes l = l.lines.items ++ map (class_line l.domain l.set) l.name-iterator ≡ map (class_line l.domain l.set) l.row.classes
