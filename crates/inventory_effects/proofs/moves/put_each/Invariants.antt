use Rattle.std.proofs.Common.{drop}
use Rattle.inventory_rows.specs.State.{inv_of}
use Rattle.inventory_rules.specs.Common.{each}
use Rattle.inventory_rules.specs.Copies.{put_moved, CanPutMoved}
use Rattle.inventory_effects.proofs.Ways.{Along}
use Rattle.inventory_effects.proofs.moves.put_each.Given as goal

abbrev pub invariant-items : goal.invariant-items
invariant-items l =
    Along CanPutMoved put_moved (each put_moved) l.fn.log (inv_of l.fn.tables) (drop l.item-index l.items) l.log (inv_of l.tables) (each put_moved l.fn.items (inv_of l.fn.tables))
