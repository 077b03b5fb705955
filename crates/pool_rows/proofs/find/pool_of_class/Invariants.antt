use Rattle.std.proofs.Common.{◌≡◌}
use Rattle.pool_tables.specs.kinds.Names.{is_same_name}
use Rattle.pool_tables.specs.Rows.{number_where}
use Rattle.pool_rows.proofs.find.pool_of_class.Given as goal

abbrev pub invariant-pools : goal.invariant-pools
invariant-pools l =
    number_where (λ pool. is_same_name pool.class l.class) l.number-iterator ≡ number_where (λ pool. is_same_name pool.class l.class) l.pools.entries
