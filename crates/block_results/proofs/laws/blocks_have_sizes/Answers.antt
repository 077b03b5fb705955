use Rattle.hall.specs.Placed.{hall_places}
use Rattle.block_results.proofs.Sized.{jobs-sized}
use Rattle.block_results.proofs.laws.blocks_have_sizes.Goals as goal

pub returns-clause-trusted : goal.returns-clause-trusted
returns-clause-trusted c = λ w choice all job first reached turns old new trees came ran fits h. jobs-sized (Unit {0}) hall_places w choice all job first reached turns old new trees came ran fits h

pub returns-clause-unknown : goal.returns-clause-unknown
returns-clause-unknown c = λ w choice all job first reached turns old new trees came ran fits h. jobs-sized ⊥ hall_places w choice all job first reached turns old new trees came ran fits h
