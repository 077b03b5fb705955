use Rattle.std.proofs.Common.{◌≡◌, ◌++◌, map, take}
use Rattle.std.specs.List.{flat_map}
use Rattle.kinds.specs.Refusals.{foremost, unless, bad_value}
use Rattle.inventory_rules.specs.change_items.declared.items.DroppedCopy.{DroppedCopy}
use Rattle.inventory_rules.specs.inventory_rows.State.{inv_of}
use Rattle.inventory_rules.specs.Copies.{dropped_refused}
use Rattle.inventory_rules.specs.Versions.{name_once}
use Rattle.item_refusals.proofs.drops.drop_refused.Given as goal

abbrev pub invariant-items : goal.invariant-items
invariant-items g l = l.found ≡ foremost (unless (name_once (map (λ (i : DroppedCopy). i.object) l.items)) bad_value ++ flat_map (dropped_refused (g.J.Past.journal l.past) l.reason (inv_of l.tables)) (take l.item-index l.items))
