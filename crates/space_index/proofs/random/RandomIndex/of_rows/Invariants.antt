use Rattle.std.proofs.Common.{◌≡◌, ◌++◌, ℕ, List}
use Rattle.std.specs.List.Sorted.{IsStrictlySortedBy}
use Rattle.std.specs.Map.{keys_of}
use Rattle.std.specs.Ordering.{nat_cmp}
use Rattle.volume_rows.specs.declared.volume.Volume.{Volume}
use Rattle.space_index.specs.Index.{IsRandomIndexOf}
use Rattle.space_index.specs.Updates.{rows_with, nothing}
use Rattle.space_index.proofs.random.RandomIndex.of_rows.Given as goal

abbrev pub invariant-volumes : goal.invariant-volumes
invariant-volumes l = (xs : List (ℕ × Volume)) × (xs ++ l.file-iterator ≡ l.pools.volumes) × IsStrictlySortedBy nat_cmp (keys_of l.pools.volumes) × IsRandomIndexOf l.index (rows_with l.pools xs) nothing
