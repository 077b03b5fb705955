use Rattle.std.proofs.Common.{◌≡◌, ◌++◌}
use Rattle.std.specs.Prelude.{map}
use Rattle.inventory_answers.specs.Policy.{set_line}
use Rattle.inventory_answers.proofs.policy.set_lines.Given as goal

abbrev pub invariant-sets : goal.invariant-sets
invariant-sets l = l.lines.items ++ map (set_line l.domain) l.name-iterator ≡ map (set_line l.domain) l.row.sets
