use Rattle.std.proofs.Common.{get_or, refl, set}
use Rattle.command_steps.proofs.Treed.{does-there, none-of, none-there, turned}
use Rattle.command_steps.specs.Clients.{client, seen}
use Rattle.command_steps.specs.Reading.{tree_view}
use Rattle.command_steps.proofs.trees.do_there.Goals as goal

pub returns-then-number-trees : goal.returns-then-number-trees
returns-then-number-trees g c =
    does-there g.P.Stepper.did c.args.p.now c.do_on.new.p (client g.T.Tree.files g.T.Tree.fault_count c.args.binder.now c.args.trees.now (set c.args.trees.now c.tree_of-number.result c.do_on.new.tree)) (tree_view c.args.work)
    c.tree_of-number.result (seen g.T.Tree.files g.T.Tree.fault_count (get_or c.args.trees.now c.tree_of-number.result c.index-trees-number.result)) (seen g.T.Tree.files g.T.Tree.fault_count c.do_on.new.tree) c.do_on.result c.tree_of-number.ensures
    (turned g.T.Tree.files g.T.Tree.fault_count c.args.binder.now c.args.trees.now c.tree_of-number.result c.index-trees-number.result c.do_on.new.tree c.if-number-trees.true) c.do_on.ensures

pub returns-else-number-trees : goal.returns-else-number-trees
returns-else-number-trees g c =
    none-there g.P.Stepper.did c.args.p.now (client g.T.Tree.files g.T.Tree.fault_count c.args.binder.now c.args.trees.now c.args.trees.now) (tree_view c.args.work) c.tree_of-number.result (g.met.P.Stepper.stays c.args.p.now) c.tree_of-number.ensures
    (none-of g.T.Tree.files g.T.Tree.fault_count c.args.binder.now c.args.trees.now c.args.trees.now c.tree_of-number.result c.if-number-trees.false) refl
