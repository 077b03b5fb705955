use Rattle.std.proofs.Common.{◌≡◌, ◌++◌, true}
use Rattle.std.specs.List.Sorted.{IsStrictlySortedBy}
use Rattle.std.specs.Map.{keys_of}
use Rattle.std.specs.Ordering.{nat_cmp}
use Rattle.pool_tables.specs.Names.{are_apart}
use Rattle.pool_tables.specs.Scratch.{volume_name, are_rightly_named}
use Rattle.pool_tables.proofs.volume_table.VolumeTable.from_rows.Given as goal

abbrev pub invariant-rows : goal.invariant-rows
invariant-rows l = record {
  whole : l.table ++ l.file-iterator ≡ l.fn.rows.entries;
  sorted : IsStrictlySortedBy nat_cmp (keys_of l.fn.rows.entries);
  apart : are_apart volume_name l.table ≡ true;
  named : are_rightly_named l.table ≡ true;
}
