use Rattle.db_backup.proofs.Pieced.{begins-not}
use Rattle.db_backup.proofs.taking.begin_once.Goals as goal

pub returns-in-Err : goal.returns-in-Err
returns-in-Err g c = begins-not g.P.Stepper.did c.args.p.now c.image.new.self c.args.kind c.in-Err.refusal c.unbegun.result c.unbegun.ensures c.in-Err.ensures
