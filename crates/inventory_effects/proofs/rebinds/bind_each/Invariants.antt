use Rattle.std.proofs.Common.{◌≡◌, map, drop}
use Rattle.inventory_rows.specs.State.{inv_of}
use Rattle.inventory_rules.specs.Common.{each}
use Rattle.inventory_rules.specs.Versions.{rebind, class_of}
use Rattle.inventory_effects.proofs.rebinds.bind_each.Given as goal

abbrev pub invariant-items : goal.invariant-items
invariant-items l =
    record {
      comes : each (rebind l.filespace) (drop l.item-index l.items) (inv_of l.tables) ≡ each (rebind l.filespace) l.fn.items (inv_of l.fn.tables);
      rows : l.names.items ≡ map class_of (drop l.item-index l.items);
    }
