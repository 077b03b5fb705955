use Rattle.std.proofs.Common.{◌≡◌, [], ◌∷◌, ◌++◌, List, ap, ◌∙◌}
use Rattle.steps.specs.Events.{event}
use Rattle.steps.specs.Events.Deed.{WritePiece}
use Rattle.machine.specs.Turns.{Turn}
use Rattle.crew.specs.Knowing.{turn}
use Rattle.crew.proofs.Runs.{from_told, still_within}
use Rattle.crew.proofs.Writing.{is_ahead, still_told}
use Rattle.crew.proofs.board.Board.write_hashed.Goals as goal

pub write_hashed-answer-requires : goal.write_hashed-answer-requires
write_hashed-answer-requires g c =
    is_ahead g.S.Store.told g.S.Store.moment_of g.S.Store.faults_of c.self.inside.keeper.0 c.self.inside.hall c.args.own.now.0 c.actor.result c.args.order.now.ticket c.args.own.now.1 c.args.order.now.bytes.now c.args.hasher.now
    c.self.invariant.2 c.compare.ensures.same (c.actor.ensures.number ∙ ap (λ o. o.0) c.compare.ensures.own) c.requires.ahead

pub invariant_of-self : goal.invariant_of-self
invariant_of-self g c =
    let deed = WritePiece c.args.order.now.ticket c.args.order.now.bytes.now c.write_hashed-answer.result in
    let same = c.actor.ensures.number ∙ ap (λ o. o.0) c.compare.ensures.own in
    let is : c.tell.new.self.0 ≡ c.self.inside.keeper.0 ++ turn c.args.own.now.0 (event c.number-n.result deed) ∷ [] =
    ap (λ k. k.0) c.tell.ensures.keeper ∙ (λ i. (c.compare.ensures.keeper i).0 ++ turn (c.compare.ensures.own i).0 (event c.number-n.result deed) ∷ []) in (
      from_told g.S.Store.told g.S.Store.moment_of g.S.Store.faults_of g.B.Origin.first c.self.inside.keeper.0 c.tell.new.self.0 c.args.own.now.0 c.actor.result c.number-n.result deed c.self.inside.hall
          c.write_hashed-answer.new.self c.self.invariant.0 is same c.number-n.ensures c.write_hashed-answer.ensures.step c.write_hashed-answer.ensures.goes,
      still_within g.B.Origin.least g.B.Origin.most c.actor.result c.args.own.now.0 (event c.number-n.result deed) c.self.inside.keeper.0 c.tell.new.self.0 c.self.invariant.1 is same c.actor.ensures.within,
      still_told g.S.Store.told g.S.Store.moment_of g.S.Store.faults_of c.self.inside.keeper.0 c.tell.new.self.0 c.args.own.now.0 c.actor.result c.number-n.result deed c.self.inside.hall c.write_hashed-answer.new.self
          c.self.invariant.2 is same c.write_hashed-answer.ensures.step,
    )

pub returns-clause-told : goal.returns-clause-told
returns-clause-told g c =
    let e = event c.number-n.result (WritePiece c.args.order.now.ticket c.args.order.now.bytes.now c.write_hashed-answer.result) in
    (c.number-n.result, c.tell.ensures.own ∙ (λ i. ((c.compare.ensures.own i).0, (c.compare.ensures.own i).1 ++ e ∷ [])))
