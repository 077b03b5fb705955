use Rattle.std.proofs.Common.{drop}
use Rattle.inventory_rows.specs.State.{inv_of}
use Rattle.inventory_rules.specs.Common.{each}
use Rattle.inventory_rules.specs.Copies.{add_copy, CanCopy}
use Rattle.inventory_effects.proofs.Ways.{Along}
use Rattle.inventory_effects.proofs.new_copies.add_copies.Given as goal

abbrev pub invariant-items : goal.invariant-items
invariant-items l =
    Along CanCopy add_copy (each add_copy) l.fn.log (inv_of l.fn.tables) (drop l.item-index l.items) l.log (inv_of l.tables) (each add_copy l.fn.items (inv_of l.fn.tables))
