use Rattle.store_api.proofs.Runs.{told_map}
use Rattle.log_file.proofs.Told.{idle_looked}
use Rattle.log_file.proofs.reads.file_len.Goals as goal

pub returns-in-Ok-len-clause-looked : goal.returns-in-Ok-len-clause-looked
returns-in-Ok-len-clause-looked g c = told_map _ _ _ _ idle_looked c.in-Ok-len.ensures.told

pub returns-in-Err-len-clause-looked : goal.returns-in-Err-len-clause-looked
returns-in-Err-len-clause-looked g c = told_map _ _ _ _ idle_looked c.in-Err-len.ensures.told
