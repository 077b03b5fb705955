use Rattle.space_laws.proofs.Whole.{chosen_whole}
use Rattle.space_laws.proofs.laws.chosen_whole.Goals as goal

pub returns : goal.returns
returns c = λ r s claims places chosen. chosen_whole r s claims places chosen
