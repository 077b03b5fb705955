use Rattle.sessions.proofs.Turns.{turn-goes, turn-refused}
use Rattle.sessions.specs.Putting.{FindsIn, Looks}
use Rattle.sessions.proofs.filespaces.find_filespace.Goals as goal

pub returns-in-Ok : goal.returns-in-Ok
returns-in-Ok g c =
    turn-goes g.P.Stepper.did g.met.P.Stepper.goes_on c.args.p.now c.look.new.p c.find_in.new.p (Looks c.args.node.now c.args.filespace.now) (FindsIn c.args.node.now c.args.filespace.now c.args.number) c.in-Ok.found
    c.find_in.result c.in-Ok.ensures c.find_in.ensures

pub returns-in-Err : goal.returns-in-Err
returns-in-Err g c =
    turn-refused g.P.Stepper.did c.args.p.now c.look.new.p (Looks c.args.node.now c.args.filespace.now) (FindsIn c.args.node.now c.args.filespace.now c.args.number) c.in-Err.refusal c.in-Err.ensures
