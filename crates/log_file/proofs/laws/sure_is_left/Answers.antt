use Rattle.log_file.proofs.Logs.{sure_reads, sure_left, sure_image, settled_sure}
use Rattle.log_file.proofs.laws.sure_is_left.Goals as goal

pub returns-clause-reads : goal.returns-clause-reads
returns-clause-reads c h file payloads end sure = (sure_reads h file payloads end sure, sure.is_end)

pub returns-clause-left : goal.returns-clause-left
returns-clause-left c = sure_left

pub returns-clause-images : goal.returns-clause-images
returns-clause-images c = sure_image

pub returns-clause-settled : goal.returns-clause-settled
returns-clause-settled c = settled_sure
