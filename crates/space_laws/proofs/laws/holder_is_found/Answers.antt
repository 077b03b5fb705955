use Rattle.space_laws.proofs.Holding.{holder_found}
use Rattle.space_laws.proofs.laws.holder_is_found.Goals as goal

pub returns : goal.returns
returns c = holder_found
