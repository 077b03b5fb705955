use Rattle.std.proofs.Common.{drop}
use Rattle.inventory_rows.specs.State.{inv_of}
use Rattle.inventory_rules.specs.Common.{each}
use Rattle.inventory_rules.specs.Versions.{mark_gone, CanBeGone}
use Rattle.inventory_effects.proofs.Loops.{Underway}
use Rattle.inventory_effects.proofs.versions.mark_all_gone.Given as goal

abbrev pub invariant-items : goal.invariant-items
invariant-items l =
    Underway (CanBeGone l.filespace) (mark_gone l.filespace) (each (mark_gone l.filespace)) (drop l.item-index l.items) (inv_of l.tables) (each (mark_gone l.filespace) l.fn.items (inv_of l.fn.tables))
