use Rattle.hall.proofs.Turns.{played}
use Rattle.hall.proofs.laws.turns_are_exact.Goals as goal

pub returns : goal.returns
returns g c = λ turns replies old new m trusted is plays. played g.S.Store.told g.S.Store.moment_of g.S.Store.faults_of g.met.S.Store.clock turns replies old new m trusted is plays
