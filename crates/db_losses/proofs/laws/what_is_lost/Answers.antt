use Rattle.db_losses.proofs.Named.{lost_named}
use Rattle.db_losses.proofs.laws.what_is_lost.Goals as goal

pub returns : goal.returns
returns c = λ losses v object valid. lost_named object losses v valid
