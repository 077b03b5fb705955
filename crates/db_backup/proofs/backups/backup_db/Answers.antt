use Rattle.std.proofs.Common.{None}
use Rattle.db_backup.proofs.Causes.{backup-by}
use Rattle.db_backup.proofs.backups.backup_db.Goals as goal

pub returns : goal.returns
returns g c = backup-by g.P.Stepper.did c.args.p.now c.take.new.p None c.take.result c.take.ensures
