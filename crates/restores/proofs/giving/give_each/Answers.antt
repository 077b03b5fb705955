use Rattle.std.proofs.Common.{◌+◌, ◌∙◌, List, take, sym, subst, arith}
use Rattle.client_files.specs.declared.outcome.Gave.{Gave}
use Rattle.steps.specs.Calls.{Call}
use Rattle.restores.specs.Given.{Gives}
use Rattle.restores.proofs.Each.{gives-next, gives-stopped, gives-wanting}
use Rattle.restores.proofs.giving.give_each.Goals as goal

pub returns-in-Err-push-clause-gives : goal.returns-in-Err-push-clause-gives
returns-in-Err-push-clause-gives g c =
    gives-wanting g.P.Stepper.did g.met.P.Stepper.goes_on c.args.p.now c.lines.p c.restore_file.new.p c.args.lines.now c.lines.line-index c.line-item.result c.lines.gave.items c.in-Ok.came
    (g.T.Tree.fault_count c.args.tree.now) (g.T.Tree.fault_count c.lines.tree) (g.T.Tree.fault_count c.restore_file.new.tree) (g.T.Tree.files c.args.tree.now) (g.T.Tree.files c.lines.tree)
    (g.T.Tree.files c.restore_file.new.tree) (omega (arith, c.lines-test.true)) c.line-item.is c.lines.invariant.gives c.in-Ok.ensures.restores

pub returns-in-Err-clause-gives : goal.returns-in-Err-clause-gives
returns-in-Err-clause-gives g c =
    gives-stopped g.P.Stepper.did g.met.P.Stepper.goes_on c.args.p.now c.lines.p c.restore_file.new.p c.args.lines.now c.lines.line-index c.line-item.result c.lines.gave.items c.in-Err.refusal
    (g.T.Tree.fault_count c.args.tree.now) (g.T.Tree.fault_count c.lines.tree) (g.T.Tree.fault_count c.restore_file.new.tree) (g.T.Tree.files c.args.tree.now) (g.T.Tree.files c.lines.tree)
    (g.T.Tree.files c.restore_file.new.tree) (omega (arith, c.lines-test.true)) c.line-item.is c.lines.invariant.gives c.in-Err.ensures.restores

pub lines-preserved : goal.lines-preserved
lines-preserved g c =
    let next = gives-next g.P.Stepper.did g.met.P.Stepper.goes_on c.args.p.now c.lines.p c.restore_file.new.p c.args.lines.now c.lines.line-index c.line-item.result c.lines.gave.items c.in-Ok.came
    (g.T.Tree.fault_count c.args.tree.now) (g.T.Tree.fault_count c.lines.tree) (g.T.Tree.fault_count c.restore_file.new.tree) (g.T.Tree.files c.args.tree.now) (g.T.Tree.files c.lines.tree)
    (g.T.Tree.files c.restore_file.new.tree) (omega (arith, c.lines-test.true)) c.line-item.is c.lines.invariant.gives c.in-Ok.ensures.restores in
    record {
      gives = subst (λ (l : List Gave). Call g.P.Stepper.did c.args.p.now c.restore_file.new.p (λ events. Gives (take (c.lines.line-index + 1) c.args.lines.now) l (g.T.Tree.fault_count c.args.tree.now)
          (g.T.Tree.fault_count c.restore_file.new.tree) (g.T.Tree.files c.args.tree.now) (g.T.Tree.files c.restore_file.new.tree) events)) (sym c.in-Ok-push.ensures.items) next;
      rises = omega (arith, c.restore_file.ensures.rises, c.lines.invariant.rises);
      long = c.restore_file.ensures.long ∙ c.lines.invariant.long;
    }
