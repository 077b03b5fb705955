-- The rows of the filespaces in the order of their keys, as the tables hold them.
use Rattle.std.specs.List.{AllByRecursion}
use Rattle.std.specs.List.Sorted.{IsStrictlySortedBy}
use Rattle.std.specs.Map.{keys_of}
use Rattle.std.specs.Ordering.{nat_cmp}
use Rattle.inventory_rows.specs.version_groups.Groups.{AreByPath}
use Rattle.inventory_rows.specs.State.{Inv}

-- filespaces stand in ascending order of their numbers, and the groups of each in ascending order of their paths
pub record IsOrdered (v : Inv) : Type 0 where
  pub by_number : IsStrictlySortedBy nat_cmp (keys_of v.clients.filespaces)
  pub by_path : AllByRecursion (λ f. AreByPath f.1.groups) v.clients.filespaces
