use Rattle.incrementals.proofs.Working.{increments-done, increments-ended, increments-unbegun}
use Rattle.incrementals.proofs.process.back_up.Goals as goal

pub returns-in-Err-clause-increments : goal.returns-in-Err-clause-increments
returns-in-Err-clause-increments g c =
    increments-unbegun g.P.Stepper.did c.args.p.now c.begin.new.p c.args.node.now c.args.filespace.now c.args.binder.now (g.T.Tree.files c.args.tree.now) (g.T.Tree.fault_count c.args.tree.now) (g.T.Tree.fault_count c.begin.new.tree) c.in-Err.refusal c.in-Err.ensures.begins

pub returns-in-Ok-work_and_force-clause-increments : goal.returns-in-Ok-work_and_force-clause-increments
returns-in-Ok-work_and_force-clause-increments g c =
    increments-done g.P.Stepper.did g.met.P.Stepper.goes_on c.args.p.now c.begin.new.p c.work_and_force.new.p c.args.node.now c.args.filespace.now c.args.binder.now (g.T.Tree.files c.args.tree.now) (g.T.Tree.files c.begin.new.tree) (g.T.Tree.fault_count c.args.tree.now) (g.T.Tree.fault_count c.begin.new.tree) (g.T.Tree.fault_count c.work_and_force.new.tree) c.in-Ok.begun c.in-Ok-work_and_force.outs c.sent_of.result c.begin.ensures.kept c.in-Ok.ensures.begins c.in-Ok-work_and_force.ensures.finishes c.sent_of.ensures

pub returns-clause-increments : goal.returns-clause-increments
returns-clause-increments g c =
    increments-ended g.P.Stepper.did g.met.P.Stepper.goes_on c.args.p.now c.begin.new.p c.work_and_force.new.p c.args.node.now c.args.filespace.now c.args.binder.now (g.T.Tree.files c.args.tree.now) (g.T.Tree.files c.begin.new.tree) (g.T.Tree.fault_count c.args.tree.now) (g.T.Tree.fault_count c.begin.new.tree) (g.T.Tree.fault_count c.work_and_force.new.tree) c.in-Ok.begun c.in-Err-work_and_force.refusal c.begin.ensures.kept c.in-Ok.ensures.begins c.in-Err-work_and_force.ensures.finishes
