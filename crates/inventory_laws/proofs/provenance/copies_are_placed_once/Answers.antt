use Rattle.inventory_laws.proofs.Origins.{old_or_new}
use Rattle.inventory_laws.proofs.provenance.copies_are_placed_once.Goals as goal

pub returns : goal.returns
returns k c v = old_or_new c v
