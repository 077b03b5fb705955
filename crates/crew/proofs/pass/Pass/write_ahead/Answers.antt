use Rattle.std.proofs.Common.{refl, sym, subst}
use Rattle.steps.specs.Events.{refusal_in}
use Rattle.steps.specs.Events.Deed.{WritePiece}
use Rattle.crew.specs.Passes.{Diary}
use Rattle.crew.specs.Wrote.{HoldsAhead}
use Rattle.crew.proofs.Diaries.{made_by}
use Rattle.crew.proofs.Writing.{wrote_holds}
use Rattle.crew.proofs.pass.Pass.write_ahead.Goals as goal

pub write_hashed-answer-requires-clause-ahead : goal.write_hashed-answer-requires-clause-ahead
write_hashed-answer-requires-clause-ahead g c = subst (λ (o : Diary). HoldsAhead c.args.order.now.ticket o.1 c.args.order.now.bytes.now c.args.hasher.now) (sym c.pass_gate.ensures.own) c.requires.ahead

pub returns-clause-made : goal.returns-clause-made
returns-clause-made g c =
    made_by c.args.self.now.own c.pass_gate.new.self.own c.write_hashed-answer.new.own c.note.new.self.own c.args.self.now.refused c.pass_gate.new.self.refused c.note.new.self.refused
    (WritePiece c.args.order.now.ticket c.args.order.now.bytes.now c.write_hashed-answer.result) (refusal_in c.write_hashed-answer.result) c.pass_gate.ensures.own c.pass_gate.ensures.refused
    c.write_hashed-answer.ensures.told refl c.note.ensures.own c.note.ensures.refused c.write_hashed-answer.ensures.listed

pub returns-clause-held : goal.returns-clause-held
returns-clause-held g c =
    wrote_holds c.args.order.now.ticket c.args.order.now.bytes.now c.args.hasher.now c.args.self.now.own c.pass_gate.new.self.own c.write_hashed-answer.new.own c.note.new.self.own c.write_hashed-answer.result
    c.pass_gate.ensures.own c.write_hashed-answer.ensures.told c.note.ensures.own c.requires.ahead
