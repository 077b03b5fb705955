use Rattle.hall_turns.proofs.Lefts.{left_sound}
use Rattle.hall_turns.proofs.laws.halls_leave_sound_stores.Goals as goal

pub returns : goal.returns
returns g c = λ hall m h tells is sound. left_sound g.S.Store.told g.S.Store.moment_of g.S.Store.faults_of g.met.S.Store.clock hall m h tells is sound
