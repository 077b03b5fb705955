use Rattle.inventory_answers.proofs.PathLines.{lines_of_path}
use Rattle.inventory_answers.proofs.clients.path_lines_are_the_paths.Goals as goal

pub returns : goal.returns
returns c v n path h = lines_of_path v n path h
