use Rattle.inventory_laws.proofs.Every.{can_make}
use Rattle.inventory_laws.proofs.making.legal_can_be_made.Goals as goal

pub returns : goal.returns
returns c j change v f orderly h fit = can_make j change v f orderly h fit
