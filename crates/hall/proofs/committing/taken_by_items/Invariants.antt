use Rattle.std.proofs.Common.{◌≡◌, ◌++◌, drop}
use Rattle.std.specs.List.{flat_map}
use Rattle.inventory_rows.specs.Search.{version}
use Rattle.inventory_rows.specs.State.{inv_of}
use Rattle.hall.specs.Joined.{left_by_version}
use Rattle.hall.proofs.committing.taken_by_items.Given as goal

abbrev pub invariant-items : goal.invariant-items
invariant-items g l =
    l.out.items ++ flat_map (λ i. left_by_version (g.I.Leaves.left i).1 (version (g.I.Leaves.left i).0 (inv_of l.tables))) (drop l.item-index l.items)
    ≡ flat_map (λ i. left_by_version (g.I.Leaves.left i).1 (version (g.I.Leaves.left i).0 (inv_of l.tables))) l.items
