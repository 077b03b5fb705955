use Rattle.db_backup.proofs.Causes.{increment-by}
use Rattle.db_backup.proofs.backups.backup_db_since.Goals as goal

pub returns : goal.returns
returns g c = increment-by g.P.Stepper.did c.args.p.now c.follow_newest.new.p c.follow_newest.result c.follow_newest.ensures
