use Rattle.space_laws.proofs.Tails.{tail_fits}
use Rattle.space_laws.proofs.laws.tails_fit.Goals as goal

pub returns : goal.returns
returns c = λ v counted file volume site are row sequential seen-at tail. tail_fits v counted file volume site are row sequential seen-at tail
