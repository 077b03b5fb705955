use Rattle.log_file.proofs.RecordBytes.{log_or_damaged}
use Rattle.log_file.proofs.laws.log_or_damaged.Goals as goal

pub returns : goal.returns
returns c = log_or_damaged
