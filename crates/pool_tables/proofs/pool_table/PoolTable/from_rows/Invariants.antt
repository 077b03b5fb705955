use Rattle.std.proofs.Common.{◌≡◌, ◌++◌, true}
use Rattle.std.specs.List.Sorted.{IsStrictlySortedBy}
use Rattle.std.specs.Map.{keys_of}
use Rattle.std.specs.Ordering.{nat_cmp}
use Rattle.pool_tables.specs.Names.{pool_name, are_apart}
use Rattle.pool_tables.proofs.pool_table.PoolTable.from_rows.Given as goal

abbrev pub invariant-rows : goal.invariant-rows
invariant-rows l = record {
  whole : l.table ++ l.number-iterator ≡ l.fn.rows.entries;
  sorted : IsStrictlySortedBy nat_cmp (keys_of l.fn.rows.entries);
  apart : are_apart pool_name l.table ≡ true;
}
