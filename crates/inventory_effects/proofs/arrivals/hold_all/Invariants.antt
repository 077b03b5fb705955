use Rattle.std.proofs.Common.{drop}
use Rattle.inventory_rows.specs.State.{inv_of}
use Rattle.inventory_rules.specs.Common.{each}
use Rattle.inventory_rules.specs.Versions.{hold, CanHold}
use Rattle.inventory_effects.proofs.Ways.{Along}
use Rattle.inventory_effects.proofs.arrivals.hold_all.Given as goal

abbrev pub invariant-items : goal.invariant-items
invariant-items l =
    Along (CanHold l.filespace) (hold l.filespace) (each (hold l.filespace)) l.fn.log (inv_of l.fn.tables) (drop l.item-index l.items) l.log (inv_of l.tables) (each (hold l.filespace) l.fn.items (inv_of l.fn.tables))
