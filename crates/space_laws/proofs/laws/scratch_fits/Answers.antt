use Rattle.space_laws.proofs.Tails.{new_fits}
use Rattle.space_laws.proofs.laws.scratch_fits.Goals as goal

pub returns : goal.returns
returns c = new_fits
