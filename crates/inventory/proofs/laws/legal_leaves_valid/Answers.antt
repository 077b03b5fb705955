use Rattle.inventory.proofs.Stays.{legal_stays}
use Rattle.inventory.proofs.laws.legal_leaves_valid.Goals as goal

pub returns-clause-valid : goal.returns-clause-valid
returns-clause-valid c j change v valid tied order days legal = (legal_stays j change v valid tied order days legal).0

pub returns-clause-tied : goal.returns-clause-tied
returns-clause-tied c j change v valid tied order days legal = (legal_stays j change v valid tied order days legal).1
