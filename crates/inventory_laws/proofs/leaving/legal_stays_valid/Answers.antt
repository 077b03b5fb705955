use Rattle.inventory_laws.proofs.Every.{stays}
use Rattle.inventory_laws.proofs.leaving.legal_stays_valid.Goals as goal

pub returns : goal.returns
returns k j c v valid tied ordered apart days causes sizes fit = stays j c v valid tied ordered apart days causes sizes fit
