use Rattle.incrementals.proofs.Beginning.{all-ruled, all-unlisted, all-unruled}
use Rattle.incrementals.proofs.asking.ask_all.Goals as goal

pub returns-in-Err : goal.returns-in-Err
returns-in-Err g c =
    all-unlisted g.P.Stepper.did c.args.p.now c.ask_versions.new.p c.args.node.now c.args.filespace.now c.in-Err.refusal c.in-Err.ensures

pub returns-in-Ok-ask_node_rules : goal.returns-in-Ok-ask_node_rules
returns-in-Ok-ask_node_rules g c =
    all-ruled g.P.Stepper.did g.met.P.Stepper.goes_on c.args.p.now c.ask_versions.new.p c.ask_node_rules.new.p c.args.node.now c.args.filespace.now c.in-Ok.versions c.in-Ok-ask_node_rules.ruled c.in-Ok.ensures c.in-Ok-ask_node_rules.ensures

pub returns-in-Err-ask_node_rules : goal.returns-in-Err-ask_node_rules
returns-in-Err-ask_node_rules g c =
    all-unruled g.P.Stepper.did g.met.P.Stepper.goes_on c.args.p.now c.ask_versions.new.p c.ask_node_rules.new.p c.args.node.now c.args.filespace.now c.in-Ok.versions c.in-Err-ask_node_rules.refusal c.in-Ok.ensures c.in-Err-ask_node_rules.ensures
