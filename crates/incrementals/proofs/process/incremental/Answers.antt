use Rattle.incrementals.proofs.Exactly.{incremental-of}
use Rattle.incrementals.proofs.process.incremental.Goals as goal

pub returns-clause-increments : goal.returns-clause-increments
returns-clause-increments g c =
    incremental-of g.P.Stepper.did c.args.p.now c.back_up.new.p c.args.node.now c.args.filespace.now c.args.binder.now (g.T.Tree.files c.args.tree.now) (g.T.Tree.fault_count c.args.tree.now) (g.T.Tree.fault_count c.back_up.new.tree) c.back_up.result c.back_up.ensures.increments
