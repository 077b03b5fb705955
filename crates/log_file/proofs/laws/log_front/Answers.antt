use Rattle.log_file.proofs.RecordBytes.{log_front}
use Rattle.log_file.proofs.laws.log_front.Goals as goal

pub returns : goal.returns
returns c = log_front
