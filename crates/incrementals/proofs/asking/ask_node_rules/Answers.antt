use Rattle.incrementals.proofs.Beginning.{node-known, node-unknown}
use Rattle.incrementals.proofs.asking.ask_node_rules.Goals as goal

pub returns-in-Err : goal.returns-in-Err
returns-in-Err g c =
    node-unknown g.P.Stepper.did c.args.p.now c.ask_node.new.p c.args.node.now c.in-Err.refusal c.in-Err.ensures

pub returns : goal.returns
returns g c =
    node-known g.P.Stepper.did g.met.P.Stepper.goes_on c.args.p.now c.ask_node.new.p c.ask_rules.new.p c.args.node.now c.in-Ok.number c.ask_rules.result c.in-Ok.ensures c.ask_rules.ensures
