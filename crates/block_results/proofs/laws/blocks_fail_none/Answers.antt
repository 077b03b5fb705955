use Rattle.hall.specs.Placed.{hall_places}
use Rattle.block_results.proofs.Unfailed.{jobs-unfailed}
use Rattle.block_results.proofs.laws.blocks_fail_none.Goals as goal

pub returns-clause-trusted : goal.returns-clause-trusted
returns-clause-trusted c = λ choice all job first turns old new trees came ran h. jobs-unfailed (Unit {0}) hall_places choice all job first turns old new trees came ran h

pub returns-clause-unknown : goal.returns-clause-unknown
returns-clause-unknown c = λ choice all job first turns old new trees came ran h. jobs-unfailed ⊥ hall_places choice all job first turns old new trees came ran h
