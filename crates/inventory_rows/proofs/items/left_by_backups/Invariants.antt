use Rattle.std.proofs.Common.{◌≡◌, length}
use Rattle.std.specs.List.{sum_by}
use Rattle.object_rows.specs.Items.{left}
use Rattle.inventory_rows.proofs.items.left_by_backups.Given as goal

abbrev pub invariant-backups : goal.invariant-backups
invariant-backups l = left (sum_by (λ b. length b.1.delays) l.backup-iterator) l.rest ≡ left (sum_by (λ b. length b.1.delays) l.backups.entries) l.fn.room
