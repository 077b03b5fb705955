use Rattle.std.proofs.Common.{ℕ, ◌^◌, length}
use Rattle.std.specs.List.{sum_by}
use Rattle.inventory_rows.specs.declared.backup.Backup.{Backup}
use Rattle.inventory_bytes.proofs.Lists.{second_below, each_below}
use Rattle.inventory_bytes.proofs.table_fits.backups_fit.Goals as goal

pub table_fits-requires-clause-within : goal.table_fits-requires-clause-within
table_fits-requires-clause-within c =
    let entries = c.args.map.now.entries in
    each_below (λ (b : ℕ × Backup). length b.1.delays) (2 ^ 32) entries (second_below (length entries) (sum_by (λ (b : ℕ × Backup). length b.1.delays) entries) (2 ^ 32) c.requires)
