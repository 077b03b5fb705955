use Rattle.inventory_bytes.specs.ClientForms.{held_row}
use Rattle.inventory_bytes.proofs.Joins.{two}
use Rattle.inventory_bytes.proofs.held_rows.put_entry.Goals as goal

pub returns : goal.returns
unfolding held_row
returns c = two _ _ _ _ _ c.in_ok-put_u64.ensures.ok c.in_ok-put_held.ensures
