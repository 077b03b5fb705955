use Rattle.db_image.proofs.One.{never_spent_less, never_spent_other, has_never_spent}
use Rattle.db_image.proofs.laws.never_spent.Goals as goal

pub returns-clause-less : goal.returns-clause-less
returns-clause-less c = never_spent_less

pub returns-clause-other : goal.returns-clause-other
returns-clause-other c = never_spent_other

pub returns-clause-has : goal.returns-clause-has
returns-clause-has c = has_never_spent
