use Rattle.inventory_rules.proofs.OwedLaws.{owed-kept}
use Rattle.inventory_rules.proofs.laws.retained_are_owed.Goals as goal

pub returns : goal.returns
returns c filespace path object v = owed-kept filespace path object v
