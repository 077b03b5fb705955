use Rattle.std.proofs.Common.{◌≡◌, nat_le}
use Rattle.std.specs.List.{list_all}
use Rattle.inventory_check.proofs.backups.backups_by_today.Given as goal

abbrev pub invariant-backups : goal.invariant-backups
invariant-backups l = list_all (λ b. nat_le b.1.taken l.tables.today) l.backup-iterator ≡ list_all (λ b. nat_le b.1.taken l.tables.today) l.tables.backups.entries
