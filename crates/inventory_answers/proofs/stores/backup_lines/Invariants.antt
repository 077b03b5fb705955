use Rattle.std.proofs.Common.{◌≡◌, ◌++◌}
use Rattle.std.specs.Prelude.{map}
use Rattle.inventory_answers.specs.Stores.{backup_line}
use Rattle.inventory_answers.proofs.stores.backup_lines.Given as goal

abbrev pub invariant-backups : goal.invariant-backups
invariant-backups l = l.lines.items ++ map backup_line l.file-iterator ≡ map backup_line l.backups.entries
