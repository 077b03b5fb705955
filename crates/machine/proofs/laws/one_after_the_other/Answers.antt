use Rattle.machine.proofs.Runs.{fits-append, fits-cut}
use Rattle.machine.proofs.laws.one_after_the_other.Goals as goal

pub returns-clause-joined : goal.returns-clause-joined
returns-clause-joined c w actor a b d xs ys f g = fits-append w actor a b d xs ys f g

pub returns-clause-cut : goal.returns-clause-cut
returns-clause-cut c w actor a d xs ys f = fits-cut w actor a d xs ys f
