use Rattle.db_backup.proofs.Pieced.{gave-other, gave-up}
use Rattle.db_backup.proofs.taking.give_up.Goals as goal

pub returns-in-Ok : goal.returns-in-Ok
returns-in-Ok g c = gave-up g.P.Stepper.did c.args.p.now c.take_off.new.p c.args.file c.in-Some.file c.args.refusal c.in-Some.is c.in-Ok.ensures

pub returns-in-Err : goal.returns-in-Err
returns-in-Err g c = gave-other g.P.Stepper.did c.args.p.now c.take_off.new.p c.args.file c.in-Some.file c.args.refusal c.in-Err.other c.in-Some.is c.in-Err.ensures
