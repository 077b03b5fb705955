use Rattle.std.proofs.Common.{arith}
use Rattle.hall_turns.proofs.Playing.{all_played, next_played, none_played, not_opened, played_exactly, turn_not_played}
use Rattle.hall_turns.proofs.played.play.Goals as goal

pub returns-in-Err-clause-sound : goal.returns-in-Err-clause-sound
returns-in-Err-clause-sound g c =
    not_opened g.S.Store.told g.S.Store.moment_of g.S.Store.faults_of c.args.store c.in-Err.refused.0 c.in-Err.refused.1 c.in-Err.ensures.files

pub turns-init : goal.turns-init
turns-init g c =
    none_played g.S.Store.told g.S.Store.moment_of g.S.Store.faults_of c.args.store c.in-Ok.hall c.args.turns.now c.new-replies.result.items c.new-replies.ensures.items
    (record { opens = c.in-Ok.ensures.opens; files = c.in-Ok.ensures.files; later = c.in-Ok.ensures.later; counts = c.in-Ok.ensures.counts })

pub returns-in-Err-take_turn-clause-sound : goal.returns-in-Err-take_turn-clause-sound
returns-in-Err-take_turn-clause-sound g c =
    turn_not_played g.S.Store.told g.S.Store.moment_of g.S.Store.faults_of c.turns_are_exact.ensures c.args.store c.turns.hall _ c.turns.replies.items
    c.in-Err-take_turn.refused.1 c.turns.invariant c.in-Err-take_turn.ensures.sound

pub turns-preserved : goal.turns-preserved
turns-preserved g c =
    next_played g.S.Store.told g.S.Store.moment_of g.S.Store.faults_of c.args.store c.turns.hall c.in-Ok-take_turn.next c.args.turns.now c.turns.turn-index c.turn-item.result c.turns.replies.items
    c.take_turn.new.replies.items c.turns-test.true c.turn-item.is c.turns.invariant c.in-Ok-take_turn.ensures.ok

pub returns-clause-plays : goal.returns-clause-plays
returns-clause-plays g c = (
  c.turns.hall,
  all_played g.S.Store.told g.S.Store.moment_of g.S.Store.faults_of c.args.store c.turns.hall c.args.turns.now c.turns.turn-index c.turns.replies.items (omega (arith, c.turns-test.false)) c.turns.invariant,
  c.into_store.ensures,
)

pub returns-clause-exact : goal.returns-clause-exact
returns-clause-exact g c =
    played_exactly g.S.Store.told g.S.Store.moment_of g.S.Store.faults_of g.met.S.Store.clock c.turns_are_exact.ensures c.trusted_halls_are_safe.ensures c.args.store c.into_store.result c.turns.hall
    c.args.turns.now c.turns.replies.items
    (all_played g.S.Store.told g.S.Store.moment_of g.S.Store.faults_of c.args.store c.turns.hall c.args.turns.now c.turns.turn-index c.turns.replies.items (omega (arith, c.turns-test.false)) c.turns.invariant)
    c.into_store.ensures
