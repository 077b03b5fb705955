use Rattle.log_file.proofs.RecordBytes.{length-block}
use Rattle.log_file.proofs.laws.block_len.Goals as goal

pub returns : goal.returns
returns c = length-block
