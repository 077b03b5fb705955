use Rattle.inventory_rows.specs.State.{inv_of}
use Rattle.inventory.proofs.OnVolumes.{rows_hold}
use Rattle.inventory.proofs.inventory.Inventory.answer.Goals as goal

pub answer-requires : goal.answer-requires
answer-requires c = record { held = rows_hold (inv_of c.self.inside.tables) c.self.invariant.1 }
