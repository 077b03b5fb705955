use Rattle.std.proofs.Common.{◌≡◌, ◌&&◌, is_some}
use Rattle.std.specs.List.{list_all}
use Rattle.inventory_rows.specs.pool_tables.Rows.{named}
use Rattle.inventory_rows.specs.State.{inv_of}
use Rattle.inventory_rules.specs.Valid.{next_is_there, pools_cite}
use Rattle.inventory_check.proofs.stores.pools_cite.Given as goal

abbrev pub invariant-pools : goal.invariant-pools
invariant-pools l = list_all (λ p. is_some (named p.1.class l.tables.pools.classes) && next_is_there p.1.settings.next (inv_of l.tables)) l.pool-iterator ≡ pools_cite (inv_of l.tables)
