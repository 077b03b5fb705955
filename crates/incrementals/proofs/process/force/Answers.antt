use Rattle.std.proofs.Common.{Ok, Err, ap, refl}
use Rattle.incrementals.proofs.Working.{forces-made}
use Rattle.incrementals.proofs.process.force.Goals as goal

pub returns-in-Ok : goal.returns-in-Ok
returns-in-Ok g c =
    forces-made g.P.Stepper.did c.args.p.now c.force.new.self (Ok c.in-Ok.field-0) (Ok tt) c.in-Ok.ensures refl

pub returns-in-Err : goal.returns-in-Err
returns-in-Err g c =
    forces-made g.P.Stepper.did c.args.p.now c.force.new.self (Err c.in-Err.refusal) (Err c.stopping.result) c.in-Err.ensures (ap Err c.stopping.ensures)
