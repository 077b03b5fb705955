use Rattle.std.proofs.Common.{List, Ok, Err, subst}
use Rattle.client_plan.specs.declared.lines.SendLine.{SendLine}
use Rattle.steps.specs.Calls.{Call}
use Rattle.client_batches.specs.Handling.{SendsFiles}
use Rattle.incrementals.proofs.Working.{carries-sent, carries-unsent}
use Rattle.incrementals.proofs.process.carry_out.Goals as goal

pub returns-in-Ok-clause-carries : goal.returns-in-Ok-clause-carries
returns-in-Ok-clause-carries g c =
    carries-sent g.P.Stepper.did g.met.P.Stepper.goes_on c.args.p.now c.send_all.new.p c.commit_lists.new.p c.args.filespace c.args.begun.now (g.T.Tree.files c.args.tree.now) (g.T.Tree.fault_count c.args.tree.now) (g.T.Tree.fault_count c.send_all.new.tree) c.in-Ok.sent c.commit_lists.result (subst (λ (ls : List SendLine). Call g.P.Stepper.did c.args.p.now c.send_all.new.p (λ events. SendsFiles c.args.begun.now.classes (g.T.Tree.files c.args.tree.now) c.args.filespace ls (g.T.Tree.fault_count c.args.tree.now) (g.T.Tree.fault_count c.send_all.new.tree) events (Ok c.in-Ok.sent))) c.send.ensures c.in-Ok.ensures.sends) c.commit_lists.ensures

pub returns-in-Err-clause-carries : goal.returns-in-Err-clause-carries
returns-in-Err-clause-carries g c =
    carries-unsent g.P.Stepper.did c.args.p.now c.send_all.new.p c.args.filespace c.args.begun.now (g.T.Tree.files c.args.tree.now) (g.T.Tree.fault_count c.args.tree.now) (g.T.Tree.fault_count c.send_all.new.tree) c.in-Err.refusal (subst (λ (ls : List SendLine). Call g.P.Stepper.did c.args.p.now c.send_all.new.p (λ events. SendsFiles c.args.begun.now.classes (g.T.Tree.files c.args.tree.now) c.args.filespace ls (g.T.Tree.fault_count c.args.tree.now) (g.T.Tree.fault_count c.send_all.new.tree) events (Err c.in-Err.refusal))) c.send.ensures c.in-Err.ensures.sends)
