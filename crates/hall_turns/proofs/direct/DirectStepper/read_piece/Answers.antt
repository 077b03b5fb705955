use Rattle.std.proofs.Common.{inl, length, refl}
use Rattle.steps.specs.Calls.{piece_of}
use Rattle.steps.specs.Events.Deed.{ReadPiece}
use Rattle.hall_turns.proofs.Stepped.{made_alone, read_counted}
use Rattle.hall_turns.proofs.direct.DirectStepper.read_piece.Goals as goal

pub returns-clause-does : goal.returns-clause-does
returns-clause-does g c = inl (
    made_alone g.S.Store.told g.S.Store.moment_of g.S.Store.faults_of (ReadPiece c.args.object c.args.kept.now c.args.from c.args.offset (length c.args.into.now) (piece_of c.read_piece-answer.result c.read_piece-answer.new.into)) c.args.self.now.hall.ghost_name _ c.args.self.now.actor c.args.self.now.refused c.args.self.now.actor c.counted-self.result
    c.args.self.now.hall.now c.read_piece-answer.new.self refl refl (read_counted c.args.self.now.refused c.counted-self.result c.read_piece-answer.result c.read_piece-answer.new.into c.counted-self.ensures) c.read_piece-answer.ensures.step c.read_piece-answer.ensures.goes c.read_piece-answer.ensures.listed)
