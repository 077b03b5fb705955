use Rattle.migration.proofs.Exact.{reached-exact, within-exact}
use Rattle.migration.proofs.laws.marks_are_exact.Goals as goal

pub returns-clause-within : goal.returns-clause-within
returns-clause-within c low p s few = within-exact low p s few

pub returns-clause-reached : goal.returns-clause-reached
returns-clause-reached c high p s few = reached-exact high p s few
