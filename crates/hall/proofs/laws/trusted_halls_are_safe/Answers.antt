use Rattle.hall.proofs.Exact.{kept_by}
use Rattle.hall.proofs.laws.trusted_halls_are_safe.Goals as goal

pub returns : goal.returns
returns g c = λ hall m h tells is sound. kept_by g.S.Store.told g.S.Store.moment_of g.S.Store.faults_of hall m h tells is sound
