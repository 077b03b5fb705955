use Rattle.std.proofs.Common.{◌≡◌, is_some}
use Rattle.std.specs.List.{list_all}
use Rattle.inventory_rows.specs.pool_tables.Rows.{row_at}
use Rattle.inventory_rows.specs.State.{inv_of}
use Rattle.inventory_rules.specs.Valid.{volumes_cite}
use Rattle.inventory_check.proofs.stores.volumes_cite.Given as goal

abbrev pub invariant-volumes : goal.invariant-volumes
invariant-volumes l = list_all (λ f. is_some (row_at f.1.pool l.tables.pools.pools)) l.volume-iterator ≡ volumes_cite (inv_of l.tables)
