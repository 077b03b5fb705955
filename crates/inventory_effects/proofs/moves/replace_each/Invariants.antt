use Rattle.std.proofs.Common.{◌≡◌, map, drop}
use Rattle.inventory_rows.specs.State.{inv_of}
use Rattle.inventory_rules.specs.Common.{each}
use Rattle.inventory_rules.specs.Copies.{move_copy, CanMove, placed_as}
use Rattle.inventory_effects.proofs.Loops.{Underway}
use Rattle.inventory_effects.proofs.moves.replace_each.Given as goal

abbrev pub invariant-items : goal.invariant-items
invariant-items l =
    record {
      under : Underway CanMove move_copy (each move_copy) (drop l.item-index l.items) (inv_of l.tables) (each move_copy l.fn.items (inv_of l.fn.tables));
      rows : l.rows.items ≡ map (placed_as l.tables.number) (drop l.item-index l.items);
    }
