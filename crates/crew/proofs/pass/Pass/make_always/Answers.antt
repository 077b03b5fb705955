use Rattle.std.proofs.Common.{refl}
use Rattle.steps.specs.Events.{refusal_in}
use Rattle.crew.proofs.Diaries.{made_by}
use Rattle.crew.proofs.pass.Pass.make_always.Goals as goal

pub returns : goal.returns
returns g c =
    made_by c.args.self.now.own c.pass_gate.new.self.own c.make-answer.new.own c.note.new.self.own c.args.self.now.refused c.pass_gate.new.self.refused c.note.new.self.refused
    (g.O.Order.deed c.args.order.now c.make-answer.result) (refusal_in c.make-answer.result) c.pass_gate.ensures.own c.pass_gate.ensures.refused c.make-answer.ensures.told
    (g.met.O.Order.answers c.args.order.now c.make-answer.result) c.note.ensures.own c.note.ensures.refused c.make-answer.ensures.listed
