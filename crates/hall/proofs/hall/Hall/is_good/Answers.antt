use Rattle.std.proofs.Common.{subst}
use Rattle.machine.specs.State.{Machine}
use Rattle.hall.specs.Good.{Is}
use Rattle.hall.proofs.hall.Hall.is_good.Goals as goal

pub returns : goal.returns
returns g c = subst (λ h. (m : Machine) × Is g.S.Store.told g.S.Store.moment_of g.S.Store.faults_of h m) c.self.view_is c.self.invariant
