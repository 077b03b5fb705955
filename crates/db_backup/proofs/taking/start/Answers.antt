use Rattle.db_backup.proofs.Pieced.{starts-not}
use Rattle.db_backup.proofs.taking.start.Goals as goal

pub returns-in-Err : goal.returns-in-Err
returns-in-Err g c =
    starts-not g.P.Stepper.did g.met.P.Stepper.goes_on c.args.p.now c.begin.new.p c.give_up.new.p c.args.kind c.in-Err.refusal c.give_up.result c.failed_file-file.result c.failed_file-file.ensures c.in-Err.ensures
    c.give_up.ensures
