use Rattle.block_results.proofs.Fitting.{refused-at}
use Rattle.block_results.proofs.laws.refused_steps_hold.Goals as goal

pub returns : goal.returns
returns c w actor old new events why f met = refused-at w actor old new events why f met
