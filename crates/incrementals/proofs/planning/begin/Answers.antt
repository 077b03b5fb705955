use Rattle.incrementals.proofs.Beginning.{begins-asked, begins-unasked}
use Rattle.incrementals.proofs.planning.begin.Goals as goal

pub returns-in-Err-clause-begins : goal.returns-in-Err-clause-begins
returns-in-Err-clause-begins g c =
    begins-unasked g.P.Stepper.did c.args.p.now c.ask_all.new.p c.args.node.now c.args.filespace.now c.args.binder.now (g.T.Tree.files c.args.tree.now) (g.T.Tree.fault_count c.args.tree.now) c.in-Err.refusal c.in-Err.ensures

pub returns-clause-begins : goal.returns-clause-begins
returns-clause-begins g c =
    begins-asked g.P.Stepper.did c.args.p.now c.ask_all.new.p c.args.node.now c.args.filespace.now c.args.binder.now (g.T.Tree.files c.args.tree.now) (g.T.Tree.fault_count c.args.tree.now) (g.T.Tree.fault_count c.list_and_plan.new.tree) c.in-Ok.basis c.list_and_plan.result c.in-Ok.ensures c.list_and_plan.ensures.plans
