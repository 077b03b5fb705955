use Rattle.hall.specs.Placed.{hall_places}
use Rattle.hall.proofs.Spots.{goes_where_aimed}
use Rattle.block_results.proofs.BySteps.{steps-of}
use Rattle.block_results.proofs.laws.transactions_are_by_steps.Goals as goal

pub returns-clause-trusted : goal.returns-clause-trusted
returns-clause-trusted c = λ turns old new added h adds. steps-of (Unit {0}) hall_places goes_where_aimed turns old new added h adds

pub returns-clause-unknown : goal.returns-clause-unknown
returns-clause-unknown c = λ turns old new added h adds. steps-of ⊥ hall_places goes_where_aimed turns old new added h adds
