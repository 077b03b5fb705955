use Rattle.std.proofs.Common.{inl, refl}
use Rattle.steps.specs.Events.Deed.{WritePiece}
use Rattle.hall_turns.proofs.Stepped.{made_alone}
use Rattle.hall_turns.proofs.direct.DirectStepper.write_piece.Goals as goal

pub returns : goal.returns
returns g c = inl (
    made_alone g.S.Store.told g.S.Store.moment_of g.S.Store.faults_of (WritePiece c.args.ticket c.args.bytes.now c.write_piece-answer.result) c.args.self.now.hall.ghost_name _ c.args.self.now.actor c.args.self.now.refused c.args.self.now.actor c.counted-self.result
    c.args.self.now.hall.now c.write_piece-answer.new.self refl refl c.counted-self.ensures c.write_piece-answer.ensures.step c.write_piece-answer.ensures.goes (c.write_piece-answer.ensures.listed c.requires.some c.requires.few))
