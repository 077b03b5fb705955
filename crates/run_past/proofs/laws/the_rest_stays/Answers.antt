use Rattle.run_past.proofs.Frames.{path_stays, stays}
use Rattle.run_past.proofs.laws.the_rest_stays.Goals as goal

pub returns-clause-versions : goal.returns-clause-versions
returns-clause-versions c j x v k a valid ascending legal there untouched = stays j x v k a valid ascending legal there untouched

pub returns-clause-paths : goal.returns-clause-paths
returns-clause-paths c j x v filespace path g valid ascending legal there untouched = path_stays j x v filespace path g valid ascending legal there untouched
