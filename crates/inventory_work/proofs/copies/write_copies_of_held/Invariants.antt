use Rattle.std.proofs.Common.{◌≡◌, ◌++◌}
use Rattle.inventory_work.specs.Copies.{copies_of_held}
use Rattle.inventory_work.proofs.copies.write_copies_of_held.Given as goal

abbrev pub invariant-held : goal.invariant-held
invariant-held l =
    l.lines.items ++ copies_of_held l.here l.filespaces.entries l.row-iterator ≡ l.fn.lines.items ++ copies_of_held l.here l.filespaces.entries l.held.entries
