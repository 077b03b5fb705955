use Rattle.space_laws.proofs.Holding.{unforced_found}
use Rattle.space_laws.proofs.laws.unforced_is_found.Goals as goal

pub returns : goal.returns
returns c = unforced_found
