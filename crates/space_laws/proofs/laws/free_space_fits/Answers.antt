use Rattle.space_laws.proofs.Fits.{pieces_fit}
use Rattle.space_laws.proofs.laws.free_space_fits.Goals as goal

pub returns : goal.returns
returns c = λ v counted file volume tied row random. pieces_fit v counted file volume tied row random
