use Rattle.hall.specs.Placed.{hall_places}
use Rattle.block_results.proofs.Stored.{have-bytes}
use Rattle.block_results.proofs.laws.stored_versions_have_bytes.Goals as goal

pub returns-clause-trusted : goal.returns-clause-trusted
returns-clause-trusted c = λ turns old new added none ran adds. have-bytes (Unit {0}) hall_places turns old new added none ran adds

pub returns-clause-unknown : goal.returns-clause-unknown
returns-clause-unknown c = λ turns old new added none ran adds. have-bytes ⊥ hall_places turns old new added none ran adds
