use Rattle.std.proofs.Common.{◌≡◌, ◌++◌}
use Rattle.inventory_work.specs.Copies.{missing_of_held}
use Rattle.inventory_work.proofs.copies.write_missing_of_held.Given as goal

abbrev pub invariant-held : goal.invariant-held
invariant-held l = l.lines.items ++ missing_of_held l.primary l.copy l.row-iterator ≡ l.fn.lines.items ++ missing_of_held l.primary l.copy l.held.entries
