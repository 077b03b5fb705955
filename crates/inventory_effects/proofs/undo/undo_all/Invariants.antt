use Rattle.std.proofs.Common.{◌≡◌, length}
use Rattle.inventory_rows.specs.State.{inv_of}
use Rattle.inventory_effects.specs.Undoing.{all_undone, CanUndoAll}
use Rattle.inventory_effects.proofs.undo.undo_all.Given as goal

abbrev pub invariant-steps : goal.invariant-steps
invariant-steps l = CanUndoAll l.log (inv_of l.tables) × (all_undone l.log (inv_of l.tables) ≡ all_undone l.fn.log (inv_of l.fn.tables))

abbrev pub decreases-steps : goal.decreases-steps
decreases-steps l = length l.log
