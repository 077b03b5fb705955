use Rattle.space_laws.proofs.Apart.{chosen_apart}
use Rattle.space_laws.proofs.laws.chosen_places_apart.Goals as goal

pub returns : goal.returns
returns c = chosen_apart
