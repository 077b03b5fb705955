use Rattle.std.proofs.Common.{Ok, Err}
use Rattle.db_backup.proofs.Deleting.{ends}
use Rattle.db_backup.proofs.deletion.delete_and_finish.Goals as goal

pub returns-in-Ok-finish : goal.returns-in-Ok-finish
returns-in-Ok-finish g c =
    ends g.P.Stepper.did g.met.P.Stepper.goes_on c.args.p.now c.delete_all.new.p c.finish.new.p c.args.files.now c.in-Ok.count (Ok tt) c.in-Ok.ensures c.in-Ok-finish.ensures

pub returns-in-Err-finish : goal.returns-in-Err-finish
returns-in-Err-finish g c =
    ends g.P.Stepper.did g.met.P.Stepper.goes_on c.args.p.now c.delete_all.new.p c.finish.new.p c.args.files.now c.in-Ok.count (Err c.in-Err-finish.refusal) c.in-Ok.ensures c.in-Err-finish.ensures
