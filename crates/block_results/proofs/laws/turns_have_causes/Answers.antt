use Rattle.hall.specs.Placed.{hall_places}
use Rattle.block_results.proofs.Turned.{have-causes}
use Rattle.block_results.proofs.laws.turns_have_causes.Goals as goal

pub returns-clause-trusted : goal.returns-clause-trusted
returns-clause-trusted c = λ turns old new h. have-causes (Unit {0}) hall_places turns old new h

pub returns-clause-unknown : goal.returns-clause-unknown
returns-clause-unknown c = λ turns old new h. have-causes ⊥ hall_places turns old new h
