use Rattle.sessions.proofs.Checkpointed.{checkpoints-on}
use Rattle.sessions.proofs.checkpoints.begin_and_go_on.Goals as goal

pub returns-in-Ok : goal.returns-in-Ok
returns-in-Ok g c = checkpoints-on g.P.Stepper.did g.met.P.Stepper.goes_on c.args.p.now c.begin.new.p c.go_on.new.p c.in-Ok.field-0 c.go_on.result c.in-Ok.ensures c.go_on.ensures
