use Rattle.inventory_laws.proofs.Assembled.{steady_begins}
use Rattle.inventory_laws.proofs.DataEnds.{data_ends}
use Rattle.inventory_laws.proofs.volume_steps.steady_from_valid_to_valid.Goals as goal

pub returns-clause-begins : goal.returns-clause-begins
returns-clause-begins c n v f t le = steady_begins n v f t le

pub returns-clause-ends : goal.returns-clause-ends
returns-clause-ends c kind v of_data f s sizes = data_ends kind v of_data f s sizes
