use Rattle.restores.proofs.Apart.{chosen-apart}
use Rattle.restores.proofs.laws.chosen_paths_differ.Goals as goal

pub returns : goal.returns
returns c which lines ascend = chosen-apart which lines ascend
