use Rattle.std.proofs.Common.{ap}
use Rattle.steps.specs.Events.{event}
use Rattle.crew.proofs.Runs.{from_told, still_within}
use Rattle.crew.proofs.Writing.{still_told}
use Rattle.crew.proofs.board.Board.make.Goals as goal

pub invariant_of-self : goal.invariant_of-self
invariant_of-self g c = (
  from_told g.S.Store.told g.S.Store.moment_of g.S.Store.faults_of g.B.Origin.first c.self.inside.keeper.0 c.tell.new.self.0 c.args.own.now.0 c.actor.result c.number-n.result
      (g.O.Order.deed c.args.order.now c.make-answer.result) c.self.inside.hall c.make-answer.new.hall c.self.invariant.0 (ap (λ k. k.0) c.tell.ensures.keeper) c.actor.ensures.number c.number-n.ensures c.make-answer.ensures.step
      c.make-answer.ensures.goes,
  still_within g.B.Origin.least g.B.Origin.most c.actor.result c.args.own.now.0 (event c.number-n.result (g.O.Order.deed c.args.order.now c.make-answer.result)) c.self.inside.keeper.0 c.tell.new.self.0 c.self.invariant.1
      (ap (λ k. k.0) c.tell.ensures.keeper) c.actor.ensures.number c.actor.ensures.within,
  still_told g.S.Store.told g.S.Store.moment_of g.S.Store.faults_of c.self.inside.keeper.0 c.tell.new.self.0 c.args.own.now.0 c.actor.result c.number-n.result (g.O.Order.deed c.args.order.now c.make-answer.result)
      c.self.inside.hall c.make-answer.new.hall c.self.invariant.2 (ap (λ k. k.0) c.tell.ensures.keeper) c.actor.ensures.number c.make-answer.ensures.step,
)
