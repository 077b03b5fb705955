use Rattle.db_backup.proofs.Journaled.{backed-up}
use Rattle.db_backup.proofs.laws.backups_are_journaled.Goals as goal

pub returns : goal.returns
returns c w actor old new after events t f h = backed-up w actor old new after events t f h
