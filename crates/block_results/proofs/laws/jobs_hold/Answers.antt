use Rattle.block_results.proofs.Jobs.{job-held}
use Rattle.block_results.proofs.laws.jobs_hold.Goals as goal

pub returns : goal.returns
returns c w actor choice lines trees left events said ended old new none f h = job-held w actor choice lines trees left events said ended old new none f h
