use Rattle.std.proofs.Common.{rules}
use Rattle.db_restore.proofs.Facts.{all_there}
use Rattle.db_restore.proofs.Putting.{days_of, restores_put, restores_unput}
use Rattle.db_restore.proofs.Refusing.{refused_of}
use Rattle.db_restore.proofs.restoring.restore_inventory.Goals as goal

pub returns-in-Ok-put-clause-told : goal.returns-in-Ok-put-clause-told
returns-in-Ok-put-clause-told g c =
    let p = c.args.backup in
    restores_put p c.in-Ok.left.0 c.args.file c.args.day c.args.skipped.now c.in-Ok.left.1 c.in-Ok-put.done _ _ _ (all_there p c.tables.ensures.valid) c.in-Ok.ensures.told c.in-Ok-put.ensures.told

pub returns-clause-told : goal.returns-clause-told
returns-clause-told g c =
    restores_unput c.args.backup c.in-Ok.left.0 c.args.file c.args.day c.args.skipped.now c.in-Ok.left.1 _ c.in-Err-put.refused _ _ _ c.in-Ok.ensures.told c.in-Err-put.ensures.told

pub returns-clause-days : goal.returns-clause-days
returns-clause-days g c = days_of c.args.backup.today c.args.day c.in-Err-put.refused _ (search rules) c.look.ensures.days

pub returns-clause-refused : goal.returns-clause-refused
returns-clause-refused g c = refused_of c.args.backup.today c.args.day _ _ _ _ c.in-Err-put.refused _ (search rules) c.look.ensures.onward.counts c.in-Err-put.ensures.refused
