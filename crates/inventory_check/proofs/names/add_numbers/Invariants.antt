use Rattle.std.specs.Ordering.{nat_cmp}
use Rattle.inventory_rows.proofs.of_object_rows.Builds.{Progress}
use Rattle.inventory_check.specs.Rows.{numbered}
use Rattle.inventory_check.proofs.names.add_numbers.Given as goal

abbrev pub invariant-backups : goal.invariant-backups
invariant-backups l = Progress nat_cmp l.fn.numbers.entries l.numbers.entries (numbered l.backups.entries) (numbered l.file-iterator)
