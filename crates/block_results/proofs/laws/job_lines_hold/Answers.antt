use Rattle.block_results.proofs.Lines.{line-holds}
use Rattle.block_results.proofs.laws.job_lines_hold.Goals as goal

pub returns : goal.returns
returns c w actor k in_use n line events answer why old new none f h = line-holds w actor k in_use n line events answer why old new none f h
