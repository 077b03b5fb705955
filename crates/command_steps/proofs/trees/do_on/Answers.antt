use Rattle.std.proofs.Common.{refl, ap}
use Rattle.command_steps.proofs.Treed.{does-on, done-on}
use Rattle.command_steps.specs.Clients.{seen}
use Rattle.command_steps.specs.Owns.{back_up, erase, restore, write}
use Rattle.command_steps.specs.Reading.{tree_view}
use Rattle.command_steps.proofs.trees.do_on.Goals as goal

pub returns-in-Write : goal.returns-in-Write
returns-in-Write g c =
    done-on g.P.Stepper.did c.args.p.now c.args.binder.now (write c.in-Write.file.now) (tree_view c.args.work) (seen g.T.Tree.files g.T.Tree.fault_count c.args.tree.now) (seen g.T.Tree.files g.T.Tree.fault_count c.write.new.tree) c.write.result (g.met.P.Stepper.stays c.args.p.now)
    (ap tree_view c.in-Write.is) (refl, c.write.ensures)

pub returns-in-Erase : goal.returns-in-Erase
returns-in-Erase g c =
    done-on g.P.Stepper.did c.args.p.now c.args.binder.now (erase c.in-Erase.file.now) (tree_view c.args.work) (seen g.T.Tree.files g.T.Tree.fault_count c.args.tree.now) (seen g.T.Tree.files g.T.Tree.fault_count c.erase.new.tree) c.erase.result (g.met.P.Stepper.stays c.args.p.now)
    (ap tree_view c.in-Erase.is) (refl, c.erase.ensures)

pub returns-in-BackUp : goal.returns-in-BackUp
returns-in-BackUp g c =
    does-on g.P.Stepper.did c.args.p.now c.back_up.new.p c.args.binder.now (back_up c.in-BackUp.files.now) (tree_view c.args.work) (seen g.T.Tree.files g.T.Tree.fault_count c.args.tree.now) (seen g.T.Tree.files g.T.Tree.fault_count c.back_up.new.tree) c.back_up.result
    (ap tree_view c.in-BackUp.is) c.back_up.ensures

pub returns-in-Restore : goal.returns-in-Restore
returns-in-Restore g c =
    does-on g.P.Stepper.did c.args.p.now c.give_wanted.new.p c.args.binder.now (restore c.in-Restore.files.now) (tree_view c.args.work) (seen g.T.Tree.files g.T.Tree.fault_count c.args.tree.now) (seen g.T.Tree.files g.T.Tree.fault_count c.give_wanted.new.tree) c.give_wanted.result
    (ap tree_view c.in-Restore.is) c.give_wanted.ensures
