use Rattle.std.proofs.Common.{◌≡◌, take}
use Rattle.std.specs.List.{flat_map}
use Rattle.kinds.specs.Refusals.{foremost}
use Rattle.inventory_rules.specs.inventory_rows.State.{inv_of}
use Rattle.inventory_rules.specs.Versions.{object_refused}
use Rattle.item_refusals.proofs.arrivals.objects_refused.Given as goal

abbrev pub invariant-items : goal.invariant-items
invariant-items g l = l.found ≡ foremost (flat_map (λ i. object_refused (inv_of l.tables) (g.T.Arrival.number i)) (take l.item-index l.items))
