use Rattle.db_image.proofs.One.{stays_shut}
use Rattle.db_image.proofs.laws.stays_shut.Goals as goal

pub returns : goal.returns
returns c = stays_shut
