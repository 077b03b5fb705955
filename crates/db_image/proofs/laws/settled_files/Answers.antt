use Rattle.db_image.proofs.One.{can_shut, image_settled}
use Rattle.db_image.proofs.laws.settled_files.Goals as goal

pub returns-clause-shut : goal.returns-clause-shut
returns-clause-shut c = can_shut

pub returns-clause-firm : goal.returns-clause-firm
returns-clause-firm c = image_settled
