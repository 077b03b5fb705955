use Rattle.hall.specs.Placed.{hall_places}
use Rattle.block_results.proofs.JobsComplete.{jobs-complete}
use Rattle.block_results.proofs.laws.blocks_are_complete.Goals as goal

pub returns-clause-trusted : goal.returns-clause-trusted
returns-clause-trusted c = λ choice all job first turns old new trees came sound h done. jobs-complete (Unit {0}) hall_places choice all job first turns old new trees came sound h done

pub returns-clause-unknown : goal.returns-clause-unknown
returns-clause-unknown c = λ choice all job first turns old new trees came sound h done. jobs-complete ⊥ hall_places choice all job first turns old new trees came sound h done
