use Rattle.std.proofs.Common.{◌≡◌, ◌++◌}
use Rattle.inventory_work.specs.Copies.{missing_of_filespaces}
use Rattle.inventory_work.proofs.copies.write_missing_of_filespaces.Given as goal

abbrev pub invariant-filespaces : goal.invariant-filespaces
invariant-filespaces l =
    l.lines.items ++ missing_of_filespaces l.primary l.copy l.filespace-iterator ≡ l.fn.lines.items ++ missing_of_filespaces l.primary l.copy l.filespaces.entries
