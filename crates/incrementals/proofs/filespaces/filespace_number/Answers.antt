use Rattle.incrementals.proofs.Beginning.{has-defined, has-found, has-none, has-unanswered}
use Rattle.incrementals.proofs.filespaces.filespace_number.Goals as goal

pub returns-in-Err : goal.returns-in-Err
returns-in-Err g c =
    has-unanswered g.P.Stepper.did c.args.p.now c.find_filespace.new.p c.args.node.now c.args.number c.args.filespace.now c.args.sends c.in-Err.refusal c.in-Err.ensures

pub returns-in-Some : goal.returns-in-Some
returns-in-Some g c =
    has-found g.P.Stepper.did c.args.p.now c.find_filespace.new.p c.args.node.now c.args.number c.args.filespace.now c.args.sends c.in-Ok.found c.in-Some.filespace c.in-Some.is c.in-Ok.ensures

pub returns-then-sends : goal.returns-then-sends
returns-then-sends g c =
    has-defined g.P.Stepper.did g.met.P.Stepper.goes_on c.args.p.now c.find_filespace.new.p c.define_and_find.new.p c.args.node.now c.args.number c.args.filespace.now c.args.sends c.in-Ok.found c.define_and_find.result c.in-None.is c.if-sends.true c.in-Ok.ensures c.define_and_find.ensures

pub returns-else-sends : goal.returns-else-sends
returns-else-sends g c =
    has-none g.P.Stepper.did c.args.p.now c.find_filespace.new.p c.args.node.now c.args.number c.args.filespace.now c.args.sends c.in-Ok.found c.in-None.is c.if-sends.false c.in-Ok.ensures
