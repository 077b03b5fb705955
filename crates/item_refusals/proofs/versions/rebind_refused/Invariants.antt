use Rattle.std.proofs.Common.{◌≡◌, ◌++◌, map, take}
use Rattle.std.specs.List.{flat_map}
use Rattle.kinds.specs.Refusals.{foremost, unless, bad_value}
use Rattle.inventory_rules.specs.change_items.declared.items.Rebinding.{Rebinding}
use Rattle.inventory_rules.specs.inventory_rows.State.{inv_of}
use Rattle.inventory_rules.specs.Versions.{paths_once, rebinding_refused}
use Rattle.item_refusals.proofs.versions.rebind_refused.Given as goal

abbrev pub invariant-items : goal.invariant-items
invariant-items g l = l.found ≡ foremost (unless (paths_once (map (λ (i : Rebinding). i.path) l.items)) bad_value ++ flat_map (rebinding_refused (g.J.Past.journal l.past) l.filespace (inv_of l.tables)) (take l.item-index l.items))
