use Rattle.incrementals.proofs.Beginning.{defined-found, defined-lost, defined-refused}
use Rattle.incrementals.proofs.filespaces.define_and_find.Goals as goal

pub returns-in-Ok-find_filespace : goal.returns-in-Ok-find_filespace
returns-in-Ok-find_filespace g c =
    defined-found g.P.Stepper.did g.met.P.Stepper.goes_on c.args.p.now c.define_filespace.new.p c.find_filespace.new.p c.args.node.now c.args.number c.args.filespace.now c.in-Ok-find_filespace.found c.there.result c.in-Ok.ensures c.in-Ok-find_filespace.ensures c.there.ensures

pub returns-in-Err-find_filespace : goal.returns-in-Err-find_filespace
returns-in-Err-find_filespace g c =
    defined-lost g.P.Stepper.did g.met.P.Stepper.goes_on c.args.p.now c.define_filespace.new.p c.find_filespace.new.p c.args.node.now c.args.number c.args.filespace.now c.in-Err-find_filespace.refusal c.in-Ok.ensures c.in-Err-find_filespace.ensures

pub returns-in-Err : goal.returns-in-Err
returns-in-Err g c =
    defined-refused g.P.Stepper.did c.args.p.now c.define_filespace.new.p c.args.node.now c.args.number c.args.filespace.now c.in-Err.refusal c.in-Err.ensures
