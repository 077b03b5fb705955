use Rattle.std.proofs.Common.{◌≡◌, ◌++◌}
use Rattle.inventory_answers.specs.Held.{held_lines}
use Rattle.inventory_answers.proofs.held.held_lines.Given as goal

abbrev pub invariant-held : goal.invariant-held
invariant-held l = l.lines.items ++ held_lines l.today l.filespace l.row-iterator ≡ held_lines l.today l.filespace l.held.entries
