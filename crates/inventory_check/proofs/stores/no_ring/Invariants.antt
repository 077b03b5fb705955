use Rattle.std.proofs.Common.{◌≡◌, not}
use Rattle.std.specs.List.{list_all}
use Rattle.inventory_rows.specs.pool_rows.Hierarchy.{comes_to}
use Rattle.inventory_rows.specs.State.{inv_of}
use Rattle.inventory_rules.specs.Valid.{no_ring}
use Rattle.inventory_check.proofs.stores.no_ring.Given as goal

abbrev pub invariant-pools : goal.invariant-pools
invariant-pools l = list_all (λ p. not (comes_to p.0 p.1.settings.next l.tables.pools.pools)) l.number-iterator ≡ no_ring (inv_of l.tables)
