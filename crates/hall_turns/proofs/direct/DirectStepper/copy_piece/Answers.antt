use Rattle.std.proofs.Common.{inl, refl}
use Rattle.steps.specs.Events.Deed.{CopyPiece}
use Rattle.hall_turns.proofs.Stepped.{made_alone}
use Rattle.hall_turns.proofs.direct.DirectStepper.copy_piece.Goals as goal

pub returns : goal.returns
returns g c = inl (
    made_alone g.S.Store.told g.S.Store.moment_of g.S.Store.faults_of (CopyPiece c.args.ticket c.copy_piece-answer.result) c.args.self.now.hall.ghost_name _ c.args.self.now.actor c.args.self.now.refused c.args.self.now.actor c.counted-self.result
    c.args.self.now.hall.now c.copy_piece-answer.new.self refl refl c.counted-self.ensures c.copy_piece-answer.ensures.step c.copy_piece-answer.ensures.goes c.copy_piece-answer.ensures.listed)
