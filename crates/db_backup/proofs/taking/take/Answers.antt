use Rattle.db_backup.proofs.Pieced.{backs-not, backs-on}
use Rattle.db_backup.proofs.taking.take.Goals as goal

pub returns-in-Ok : goal.returns-in-Ok
returns-in-Ok g c = backs-on g.P.Stepper.did g.met.P.Stepper.goes_on c.args.p.now c.start.new.p c.complete.new.p c.args.kind c.in-Ok.taken c.complete.result c.in-Ok.ensures c.complete.ensures

pub returns-in-Err : goal.returns-in-Err
returns-in-Err g c = backs-not g.P.Stepper.did c.args.p.now c.start.new.p c.args.kind c.in-Err.refusal c.in-Err.ensures
