use Rattle.std.proofs.Common.{ℕ, List, subst}
use Rattle.steps.specs.Calls.{Call}
use Rattle.client_batches.specs.Tickets.{GivesBack}
use Rattle.client_batches.proofs.Filled.{fills-ended}
use Rattle.client_batches.proofs.sending.fill_batch.Goals as goal

pub returns-in-Err-clause-fills : goal.returns-in-Err-clause-fills
returns-in-Err-clause-fills g c =
    fills-ended g.P.Stepper.did g.met.P.Stepper.goes_on c.args.p.now c.send_each.new.p c.give_back.new.p c.args.classes.now (g.T.Tree.files c.args.tree.now) c.args.lines.now c.send_each.new.came.items c.send_each.new.held.items c.in-Err.refusal c.give_back.result (g.T.Tree.fault_count c.args.tree.now) (g.T.Tree.fault_count c.send_each.new.tree) c.send_each.ensures.held c.in-Err.ensures.sends (subst (λ (ts : List ℕ). Call g.P.Stepper.did c.send_each.new.p c.give_back.new.p (λ events. GivesBack ts c.in-Err.refusal events c.give_back.result)) c.as_slice.ensures.value c.give_back.ensures)
