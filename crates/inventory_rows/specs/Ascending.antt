-- The rows of the database in ascending order of their keys, each key once, as tables hold them.
use Rattle.std.specs.List.Sorted.{IsStrictlySortedBy}
use Rattle.std.specs.Map.{keys_of}
use Rattle.std.specs.Ordering.{nat_cmp}
use Rattle.policy_domains.specs.Ascending.{SetsAscend}
use Rattle.object_rows.specs.Places.{PathsAscend}
use Rattle.inventory_rows.specs.State.{Inv}

-- filespaces and pools stand by number, sets by name, and groups by path
pub record AreAscending (v : Inv) : Type 0 where
  pub filespaces : IsStrictlySortedBy nat_cmp (keys_of v.clients.filespaces)
  pub paths : PathsAscend v.clients.filespaces
  pub pools : IsStrictlySortedBy nat_cmp (keys_of v.stores.pools)
  pub sets : SetsAscend v.domains
