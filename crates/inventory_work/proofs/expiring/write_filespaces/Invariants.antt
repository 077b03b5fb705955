use Rattle.std.proofs.Common.{◌≡◌, ◌++◌}
use Rattle.inventory_rows.specs.State.{inv_of}
use Rattle.inventory_work.specs.Expiring.{unretained_of_filespaces}
use Rattle.inventory_work.proofs.expiring.write_filespaces.Given as goal

abbrev pub invariant-filespaces : goal.invariant-filespaces
invariant-filespaces l =
    l.lines.items ++ unretained_of_filespaces (inv_of l.tables) l.number-iterator ≡ l.fn.lines.items ++ unretained_of_filespaces (inv_of l.tables) l.filespaces.entries
