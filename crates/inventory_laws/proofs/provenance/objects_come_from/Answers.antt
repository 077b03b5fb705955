use Rattle.inventory_laws.proofs.Origins.{comes_from}
use Rattle.inventory_laws.proofs.provenance.objects_come_from.Goals as goal

pub returns : goal.returns
returns k c v = comes_from c v
