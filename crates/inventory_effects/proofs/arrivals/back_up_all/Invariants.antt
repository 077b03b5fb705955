use Rattle.std.proofs.Common.{drop}
use Rattle.inventory_rows.specs.State.{inv_of}
use Rattle.inventory_rules.specs.Common.{each}
use Rattle.inventory_rules.specs.Versions.{back_up, CanBackUp}
use Rattle.inventory_effects.proofs.Ways.{Along}
use Rattle.inventory_effects.proofs.arrivals.back_up_all.Given as goal

abbrev pub invariant-items : goal.invariant-items
invariant-items l =
    Along (CanBackUp l.filespace) (back_up l.filespace) (each (back_up l.filespace)) l.fn.log (inv_of l.fn.tables) (drop l.item-index l.items) l.log (inv_of l.tables) (each (back_up l.filespace) l.fn.items (inv_of l.fn.tables))
