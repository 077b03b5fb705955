use Rattle.hall_turns.proofs.Playing.{made_turn, stopped_says, stopped_turn}
use Rattle.hall_turns.proofs.played.take_turn.Goals as goal

pub returns-in-Do-clause-ok : goal.returns-in-Do-clause-ok
returns-in-Do-clause-ok g c =
    made_turn g.S.Store.told g.S.Store.moment_of g.S.Store.faults_of c.args.turn.now c.in-Do.actor c.in-Do.step c.args.hall c.args.replies.now.items c.make.new.replies.items c.make.result c.in-Do.is c.make.ensures.ok

pub returns-in-Stop-clause-ok : goal.returns-in-Stop-clause-ok
returns-in-Stop-clause-ok g c =
    stopped_turn g.S.Store.told g.S.Store.moment_of g.S.Store.faults_of c.args.turn.now c.in-Stop.choice c.args.hall c.args.replies.now.items c.into_store.result c.stop.result c.open.result c.in-Stop.is
    c.into_store.ensures c.stop.ensures.told c.stop.ensures.time c.stop.ensures.counts c.open.ensures.opens c.open.ensures.files c.open.ensures.later c.open.ensures.counts

pub returns-in-Stop-clause-sound : goal.returns-in-Stop-clause-sound
returns-in-Stop-clause-sound g c =
    stopped_says g.S.Store.told g.S.Store.moment_of g.S.Store.faults_of c.trusted_halls_are_safe.ensures c.args.hall c.into_store.result c.stop.result c.open.result
    c.into_store.ensures c.stop.ensures.told c.open.ensures.files
