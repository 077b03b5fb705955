use Rattle.inventory.proofs.Tested.{tested_alike}
use Rattle.inventory.proofs.laws.tests_are_the_rules.Goals as goal

pub returns : goal.returns
returns k j c v valid tied order day = tested_alike j c v valid tied order day
