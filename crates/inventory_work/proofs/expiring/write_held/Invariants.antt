use Rattle.std.proofs.Common.{◌≡◌, ◌++◌}
use Rattle.inventory_work.specs.Expiring.{unretained_of_held}
use Rattle.inventory_work.proofs.expiring.write_held.Given as goal

abbrev pub invariant-held : goal.invariant-held
invariant-held l = l.lines.items ++ unretained_of_held l.today l.row-iterator ≡ l.fn.lines.items ++ unretained_of_held l.today l.held.entries
