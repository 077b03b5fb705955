use Rattle.std.proofs.Common.{Ok, ap, sym, ◌∙◌}
use Rattle.incrementals.proofs.Working.{works-found, works-idle, works-unfound}
use Rattle.incrementals.proofs.process.work.Goals as goal

pub returns-then-idle-clause-works : goal.returns-then-idle-clause-works
returns-then-idle-clause-works g c =
    works-idle g.P.Stepper.did c.args.p.now c.args.node.now c.args.filespace.now c.args.begun.now (g.T.Tree.files c.args.tree.now) (g.T.Tree.fault_count c.args.tree.now) _ (g.met.P.Stepper.stays c.args.p.now) (sym c.is_idle-idle.ensures ∙ c.if-idle.true) (ap Ok c.no_outs.ensures)

pub returns-in-Ok-clause-works : goal.returns-in-Ok-clause-works
returns-in-Ok-clause-works g c =
    works-found g.P.Stepper.did g.met.P.Stepper.goes_on c.args.p.now c.filespace_number.new.p c.carry_out.new.p c.args.node.now c.args.filespace.now c.args.begun.now (g.T.Tree.files c.args.tree.now) (g.T.Tree.fault_count c.args.tree.now) (g.T.Tree.fault_count c.carry_out.new.tree) c.is_sending-sends.result c.in-Ok.number c.carry_out.result (sym c.is_idle-idle.ensures ∙ c.if-idle.false) c.is_sending-sends.ensures c.in-Ok.ensures c.carry_out.ensures.carries

pub returns-in-Err-clause-works : goal.returns-in-Err-clause-works
returns-in-Err-clause-works g c =
    works-unfound g.P.Stepper.did c.args.p.now c.filespace_number.new.p c.args.node.now c.args.filespace.now c.args.begun.now (g.T.Tree.files c.args.tree.now) (g.T.Tree.fault_count c.args.tree.now) c.is_sending-sends.result c.in-Err.refusal (sym c.is_idle-idle.ensures ∙ c.if-idle.false) c.is_sending-sends.ensures c.in-Err.ensures
