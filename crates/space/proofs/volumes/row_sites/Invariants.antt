use Rattle.std.proofs.Common.{◌≡◌, ◌++◌}
use Rattle.std.specs.List.Sorted.{IsStrictlySortedBy}
use Rattle.std.specs.Map.{keys_of}
use Rattle.std.specs.Ordering.{nat_cmp}
use Rattle.space.specs.Volumes.{seen}
use Rattle.space.proofs.volumes.row_sites.Given as goal

abbrev pub invariant-volumes : goal.invariant-volumes
invariant-volumes l = record {
  whole : l.sites.entries ++ seen l.file-iterator ≡ seen l.pools.volumes;
  sorted : IsStrictlySortedBy nat_cmp (keys_of l.pools.volumes);
}
