use Rattle.std.proofs.Common.{List, Option, Ok, drop, length, rules, arith, subst, sym, ◌∙◌}
use Rattle.kinds.specs.declared.refusal.Refusal.{Refusal}
use Rattle.steps.specs.Calls.{Call}
use Rattle.client_batches.specs.Rounds.{SendsAll}
use Rattle.client_batches.proofs.Rounding.{rounds-all, rounds-next, rounds-stopped, rounds-used}
use Rattle.client_batches.proofs.rounds.send_rounds.Goals as goal

pub returns-then-ended-clause-sends : goal.returns-then-ended-clause-sends
returns-then-ended-clause-sends g c =
    subst (λ (os : List (Option Refusal)). Call g.P.Stepper.did c.args.p.now c.rounds.p
    (λ events. SendsAll c.args.classes.now (g.T.Tree.files c.args.tree.now) c.args.filespace c.args.lines.now (g.T.Tree.fault_count c.args.tree.now) (g.T.Tree.fault_count c.rounds.tree) events (Ok os)))
    (sym c.from_vec.ensures)
    (rounds-all g.P.Stepper.did c.args.p.now c.rounds.p c.args.classes.now (g.T.Tree.files c.args.tree.now) c.args.filespace c.args.lines.now c.len-done.result c.rounds.rounds c.rounds.settled.items (g.T.Tree.fault_count c.args.tree.now) (g.T.Tree.fault_count c.rounds.tree) (search rules) (c.len-done.ensures ∙ c.rounds.settled.ok.0) c.rounds.invariant.sends)

pub returns-in-Err-clause-sends : goal.returns-in-Err-clause-sends
returns-in-Err-clause-sends g c =
    rounds-stopped g.P.Stepper.did g.met.P.Stepper.goes_on c.args.p.now c.rounds.p c.send_some.new.p c.args.classes.now (g.T.Tree.files c.args.tree.now) (g.T.Tree.files c.rounds.tree) c.args.filespace c.args.lines.now c.len-done.result c.rounds.rounds c.rounds.settled.items c.send_some.new.settled.items (g.T.Tree.fault_count c.args.tree.now) (g.T.Tree.fault_count c.rounds.tree) (g.T.Tree.fault_count c.send_some.new.tree) c.in-Err.refusal c.rounds.invariant.kept (c.len-done.ensures ∙ c.rounds.settled.ok.0) c.rounds.invariant.sends c.in-Err.ensures.sends

pub returns-clause-sends : goal.returns-clause-sends
returns-clause-sends g c =
    rounds-used g.P.Stepper.did c.args.p.now c.rounds.p c.args.classes.now (g.T.Tree.files c.args.tree.now) c.args.filespace c.args.lines.now (drop (length c.rounds.settled.items) c.args.lines.now) c.rounds.rounds c.rounds.settled.items (g.T.Tree.fault_count c.args.tree.now) (g.T.Tree.fault_count c.rounds.tree) c.rounds.invariant.sends

pub rounds-preserved : goal.rounds-preserved
rounds-preserved g c = record {
  sends = rounds-next g.P.Stepper.did g.met.P.Stepper.goes_on c.args.p.now c.rounds.p c.send_some.new.p c.args.classes.now (g.T.Tree.files c.args.tree.now) (g.T.Tree.files c.rounds.tree) c.args.filespace c.args.lines.now c.len-done.result c.rounds.rounds c.rounds.settled.items c.send_some.new.settled.items (g.T.Tree.fault_count c.args.tree.now) (g.T.Tree.fault_count c.rounds.tree) (g.T.Tree.fault_count c.send_some.new.tree) c.rounds.invariant.kept (c.len-done.ensures ∙ c.rounds.settled.ok.0) c.rounds.invariant.sends c.in-Ok.ensures.sends;
  within = omega (arith, c.rounds-test.true);
  kept = c.send_some.ensures.kept ∙ c.rounds.invariant.kept;
  rises = omega (arith, c.send_some.ensures.rises, c.rounds.invariant.rises);
  long = c.send_some.ensures.long ∙ c.rounds.invariant.long;
}
