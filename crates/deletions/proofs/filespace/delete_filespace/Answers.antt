use Rattle.deletions.proofs.Whole.{delete-stopped, deletes}
use Rattle.deletions.proofs.filespace.delete_filespace.Goals as goal

pub returns-in-Ok : goal.returns-in-Ok
returns-in-Ok g c =
    deletes g.P.Stepper.did g.met.P.Stepper.goes_on c.args.p.now c.find.new.p c.delete_named-result.new.p c.args.filespace c.in-Ok.names c.delete_named-result.result c.in-Ok.ensures c.delete_named-result.ensures

pub returns-in-Err : goal.returns-in-Err
returns-in-Err g c = delete-stopped g.P.Stepper.did c.args.p.now c.find.new.p c.args.filespace c.in-Err.refusal c.in-Err.ensures
