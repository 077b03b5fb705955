use Rattle.log_file.proofs.RecordBytes.{one_log, not_both, one_damage}
use Rattle.log_file.proofs.laws.one_log.Goals as goal

pub returns-clause-one : goal.returns-clause-one
returns-clause-one c = one_log

pub returns-clause-damaged : goal.returns-clause-damaged
returns-clause-damaged c = not_both

pub returns-clause-place : goal.returns-clause-place
returns-clause-place c = one_damage
