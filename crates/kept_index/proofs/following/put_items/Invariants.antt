use Rattle.std.proofs.Common.{[], drop}
use Rattle.std.specs.List.{flat_map}
use Rattle.pool_rows.specs.PoolRows.{PoolRows}
use Rattle.space.specs.Claims.{Claims}
use Rattle.kept_index.specs.Following.{Remains}
use Rattle.kept_index.specs.Steps.{of_object}
use Rattle.kept_index.proofs.following.put_items.Given as goal

abbrev pub invariant-items : goal.invariant-items
invariant-items g l =
    (c : Claims) (full : PoolRows) → Remains l.initial.index c [] (flat_map (λ i. of_object (g.I.Brings.brought i)) l.items) full l.pools
    → Remains l.index c [] (flat_map (λ i. of_object (g.I.Brings.brought i)) (drop l.item-index l.items)) full l.pools
