use Rattle.incrementals.proofs.Working.{finishes-done, finishes-unforced, finishes-unworked}
use Rattle.incrementals.proofs.process.work_and_force.Goals as goal

pub returns-in-Err-clause-finishes : goal.returns-in-Err-clause-finishes
returns-in-Err-clause-finishes g c =
    finishes-unworked g.P.Stepper.did c.args.p.now c.work.new.p c.args.node.now c.args.filespace.now c.args.begun.now (g.T.Tree.files c.args.tree.now) (g.T.Tree.fault_count c.args.tree.now) (g.T.Tree.fault_count c.work.new.tree) c.in-Err.refusal c.in-Err.ensures.works

pub returns-in-Ok-force-clause-finishes : goal.returns-in-Ok-force-clause-finishes
returns-in-Ok-force-clause-finishes g c =
    finishes-done g.P.Stepper.did g.met.P.Stepper.goes_on c.args.p.now c.work.new.p c.force.new.p c.args.node.now c.args.filespace.now c.args.begun.now (g.T.Tree.files c.args.tree.now) (g.T.Tree.fault_count c.args.tree.now) (g.T.Tree.fault_count c.work.new.tree) c.in-Ok.outs c.in-Ok.ensures.works c.in-Ok-force.ensures

pub returns-in-Err-force-clause-finishes : goal.returns-in-Err-force-clause-finishes
returns-in-Err-force-clause-finishes g c =
    finishes-unforced g.P.Stepper.did g.met.P.Stepper.goes_on c.args.p.now c.work.new.p c.force.new.p c.args.node.now c.args.filespace.now c.args.begun.now (g.T.Tree.files c.args.tree.now) (g.T.Tree.fault_count c.args.tree.now) (g.T.Tree.fault_count c.work.new.tree) c.in-Ok.outs c.in-Err-force.refusal c.in-Ok.ensures.works c.in-Err-force.ensures
