use Rattle.std.proofs.Common.{List, Ok, Err, subst}
use Rattle.steps.specs.Calls.{Call}
use Rattle.restores.specs.Given.{GivesEach}
use Rattle.restores.specs.declared.choosing.RestoreLine.{RestoreLine}
use Rattle.restores.proofs.Asking.{restores-each, restores-stopped}
use Rattle.restores.proofs.process.restore.Goals as goal

pub returns-in-Ok-give_each-clause-restores : goal.returns-in-Ok-give_each-clause-restores
returns-in-Ok-give_each-clause-restores g c =
    restores-each g.P.Stepper.did g.met.P.Stepper.goes_on c.args.p.now c.ask_and_choose.new.p c.give_each.new.p c.args.node c.args.filespace c.args.which.now (g.T.Tree.fault_count c.args.tree.now)
    (g.T.Tree.fault_count c.give_each.new.tree) (g.T.Tree.files c.args.tree.now) (g.T.Tree.files c.give_each.new.tree) c.in-Ok.lines c.in-Ok-give_each.gave c.in-Ok.ensures
    (subst (λ (lines : List RestoreLine). Call g.P.Stepper.did c.ask_and_choose.new.p c.give_each.new.p (λ events. GivesEach lines (g.T.Tree.fault_count c.args.tree.now) (g.T.Tree.fault_count c.give_each.new.tree)
    (g.T.Tree.files c.args.tree.now) (g.T.Tree.files c.give_each.new.tree) events (Ok c.in-Ok-give_each.gave))) c.as_slice.ensures c.in-Ok-give_each.ensures.gives)

pub returns-in-Err-give_each-clause-restores : goal.returns-in-Err-give_each-clause-restores
returns-in-Err-give_each-clause-restores g c =
    restores-stopped g.P.Stepper.did g.met.P.Stepper.goes_on c.args.p.now c.ask_and_choose.new.p c.give_each.new.p c.args.node c.args.filespace c.args.which.now (g.T.Tree.fault_count c.args.tree.now)
    (g.T.Tree.fault_count c.give_each.new.tree) (g.T.Tree.files c.args.tree.now) (g.T.Tree.files c.give_each.new.tree) c.in-Ok.lines c.in-Err-give_each.refusal c.in-Ok.ensures
    (subst (λ (lines : List RestoreLine). Call g.P.Stepper.did c.ask_and_choose.new.p c.give_each.new.p (λ events. GivesEach lines (g.T.Tree.fault_count c.args.tree.now) (g.T.Tree.fault_count c.give_each.new.tree)
    (g.T.Tree.files c.args.tree.now) (g.T.Tree.files c.give_each.new.tree) events (Err c.in-Err-give_each.refusal))) c.as_slice.ensures c.in-Err-give_each.ensures.gives)
