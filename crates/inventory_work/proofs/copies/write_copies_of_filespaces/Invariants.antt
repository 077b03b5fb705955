use Rattle.std.proofs.Common.{◌≡◌, ◌++◌}
use Rattle.inventory_work.specs.Copies.{copies_of_filespaces}
use Rattle.inventory_work.proofs.copies.write_copies_of_filespaces.Given as goal

abbrev pub invariant-filespaces : goal.invariant-filespaces
invariant-filespaces l =
    l.lines.items ++ copies_of_filespaces l.here l.filespace-iterator ≡ l.fn.lines.items ++ copies_of_filespaces l.here l.filespaces.entries
