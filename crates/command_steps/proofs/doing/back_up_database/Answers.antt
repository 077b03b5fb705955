use Rattle.std.proofs.Common.{None, Ok, Err, ap, refl}
use Rattle.db_backup.specs.Backups.{DatabaseBackup}
use Rattle.command_steps.proofs.Worked.{given}
use Rattle.command_steps.specs.Doing.{backed_up}
use Rattle.command_steps.proofs.doing.back_up_database.Goals as goal

pub returns-in-Ok : goal.returns-in-Ok
returns-in-Ok g c = given g.P.Stepper.did c.args.p.now c.backup_db.new.p (DatabaseBackup None) backed_up (Ok c.in-Ok.taken) (Ok c.backed_up.result) c.in-Ok.ensures (ap Ok c.backed_up.ensures)

pub returns-in-Err : goal.returns-in-Err
returns-in-Err g c = given g.P.Stepper.did c.args.p.now c.backup_db.new.p (DatabaseBackup None) backed_up (Err c.in-Err.refusal) (Err c.in-Err.refusal) c.in-Err.ensures refl
