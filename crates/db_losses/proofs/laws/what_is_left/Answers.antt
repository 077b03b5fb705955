use Rattle.db_losses.proofs.Flat.{versions_restored, copies_restored}
use Rattle.db_losses.proofs.laws.what_is_left.Goals as goal

pub returns-clause-versions : goal.returns-clause-versions
returns-clause-versions c = versions_restored

pub returns-clause-copies : goal.returns-clause-copies
returns-clause-copies c = copies_restored
