use Rattle.block_results.proofs.Jobs.{jobs-held}
use Rattle.block_results.proofs.laws.blocks_hold.Goals as goal

pub returns : goal.returns
returns c w choice all job first reached turns trees came fits h = jobs-held w choice all job first reached turns trees came fits h
