use Rattle.db_backup.proofs.Pieced.{took-not, took-off}
use Rattle.db_backup.proofs.taking.take_off.Goals as goal

pub returns-in-Ok : goal.returns-in-Ok
returns-in-Ok g c = took-off g.P.Stepper.did c.args.p.now _ c.args.file c.in-Ok.field-0 c.in-Ok.ensures

pub returns-in-Err : goal.returns-in-Err
returns-in-Err g c = took-not g.P.Stepper.did c.args.p.now _ c.args.file c.in-Err.refusal c.gone_by.result c.gone_by.ensures c.in-Err.ensures
