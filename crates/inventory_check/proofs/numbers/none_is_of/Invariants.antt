use Rattle.std.proofs.Common.{◌≡◌, not, is_some}
use Rattle.std.specs.List.{list_all}
use Rattle.std.specs.Map.{keys_of}
use Rattle.inventory_rows.specs.pool_tables.Rows.{row_at}
use Rattle.inventory_check.proofs.numbers.none_is_of.Given as goal

abbrev pub invariant-volumes : goal.invariant-volumes
invariant-volumes l = list_all (λ n. not (is_some (row_at n l.backups.entries))) (keys_of l.file-iterator) ≡ list_all (λ n. not (is_some (row_at n l.backups.entries))) (keys_of l.volumes.entries)
