use Rattle.std.proofs.Common.{ap, length}
use Rattle.steps.specs.Calls.{piece_of}
use Rattle.steps.specs.Events.{event}
use Rattle.steps.specs.Events.Deed.{ReadPiece}
use Rattle.crew.proofs.Runs.{from_told, still_within}
use Rattle.crew.proofs.Writing.{still_told}
use Rattle.crew.proofs.board.Board.read_piece.Goals as goal

pub invariant_of-self : goal.invariant_of-self
invariant_of-self g c =
    let deed = ReadPiece c.args.object c.args.kept.now c.args.from c.args.offset (length c.args.into.now) (piece_of c.read_piece-answer.result c.read_piece-answer.new.into) in (
      from_told g.S.Store.told g.S.Store.moment_of g.S.Store.faults_of g.B.Origin.first c.self.inside.keeper.0 c.tell.new.self.0 c.args.own.now.0 c.actor.result c.number-n.result deed c.self.inside.hall
          c.read_piece-answer.new.self c.self.invariant.0 (ap (λ k. k.0) c.tell.ensures.keeper) c.actor.ensures.number c.number-n.ensures c.read_piece-answer.ensures.step c.read_piece-answer.ensures.goes,
      still_within g.B.Origin.least g.B.Origin.most c.actor.result c.args.own.now.0 (event c.number-n.result deed) c.self.inside.keeper.0 c.tell.new.self.0 c.self.invariant.1 (ap (λ k. k.0) c.tell.ensures.keeper)
          c.actor.ensures.number c.actor.ensures.within,
      still_told g.S.Store.told g.S.Store.moment_of g.S.Store.faults_of c.self.inside.keeper.0 c.tell.new.self.0 c.args.own.now.0 c.actor.result c.number-n.result deed c.self.inside.hall c.read_piece-answer.new.self
          c.self.invariant.2 (ap (λ k. k.0) c.tell.ensures.keeper) c.actor.ensures.number c.read_piece-answer.ensures.step,
    )
