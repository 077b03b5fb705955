use Rattle.db_image.proofs.One.{head_image}
use Rattle.db_image.proofs.laws.head_of_image.Goals as goal

pub returns : goal.returns
returns c = head_image
