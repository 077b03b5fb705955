use Rattle.space_laws.proofs.Ends.{own_end}
use Rattle.space_laws.proofs.laws.own_segments_end.Goals as goal

pub returns : goal.returns
returns c = λ s counted. own_end s counted
