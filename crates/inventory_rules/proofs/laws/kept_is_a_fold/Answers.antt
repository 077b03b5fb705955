use Rattle.inventory_rules.proofs.KeptLaws.{effect-kept}
use Rattle.inventory_rules.proofs.laws.kept_is_a_fold.Goals as goal

pub returns : goal.returns
returns c change v = effect-kept change v
