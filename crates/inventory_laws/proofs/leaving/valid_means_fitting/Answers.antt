use Rattle.inventory_laws.proofs.Fitting.{fitting}
use Rattle.inventory_laws.proofs.leaving.valid_means_fitting.Goals as goal

pub returns : goal.returns
returns k j c v valid tied ordered apart cause after = fitting j c v valid tied ordered apart cause after
