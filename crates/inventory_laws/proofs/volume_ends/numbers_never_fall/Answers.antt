use Rattle.inventory_laws.proofs.Rising.{draws_on}
use Rattle.inventory_laws.proofs.volume_ends.numbers_never_fall.Goals as goal

pub returns : goal.returns
returns k c v = draws_on c v
