use Rattle.hall.proofs.Exact.{exact, still_trusted}
use Rattle.hall.proofs.laws.steps_are_exact.Goals as goal

pub returns-clause-exact : goal.returns-clause-exact
returns-clause-exact g c = λ actor deed old new m trusted is step. exact g.S.Store.told g.S.Store.moment_of g.S.Store.faults_of actor old new m is trusted deed step

pub returns-clause-trusted : goal.returns-clause-trusted
returns-clause-trusted g c = λ old new m trusted is goes. still_trusted g.S.Store.told g.S.Store.moment_of g.S.Store.faults_of g.met.S.Store.clock old new m is trusted goes
