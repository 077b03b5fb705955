use Rattle.std.proofs.Common.{◌≡◌, ◌++◌}
use Rattle.std.specs.Prelude.{map}
use Rattle.inventory_answers.specs.Stores.{pool_line}
use Rattle.inventory_answers.proofs.stores.all_pools.Given as goal

abbrev pub invariant-pools : goal.invariant-pools
invariant-pools l = l.lines.items ++ map (pool_line l.pools) l.number-iterator ≡ map (pool_line l.pools) l.pools.pools
