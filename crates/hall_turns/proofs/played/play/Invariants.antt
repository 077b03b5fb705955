use Rattle.std.proofs.Common.{take}
use Rattle.hall_turns.specs.Runs.{PlaysFrom}
use Rattle.hall_turns.proofs.played.play.Given as goal

-- the turns so far led to the hall that is there
abbrev pub invariant-turns : goal.invariant-turns
invariant-turns g l = PlaysFrom g.S.Store.told g.S.Store.moment_of g.S.Store.faults_of l.fn.store (take l.turn-index l.turns) l.replies.items l.hall
