use Rattle.space.proofs.Free.{pieces_free}
use Rattle.space.proofs.laws.free_space_is_free.Goals as goal

pub returns : goal.returns
returns c = λ counted f. pieces_free counted f
