use Rattle.db_backup.proofs.Following.{followed, unfollowed}
use Rattle.db_backup.proofs.laws.increments_follow_the_newest.Goals as goal

pub returns-clause-made : goal.returns-clause-made
returns-clause-made c w actor old new events t f h = followed w actor old new events t f h

pub returns-clause-refused : goal.returns-clause-refused
returns-clause-refused c w actor old new events f h = unfollowed w actor old new events f h
