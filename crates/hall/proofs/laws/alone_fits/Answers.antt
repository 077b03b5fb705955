use Rattle.hall.proofs.Alone.{alone_fits}
use Rattle.hall.proofs.Spots.{goes_where_aimed, refuses_elsewhere}
use Rattle.hall.proofs.laws.alone_fits.Goals as goal

pub returns : goal.returns
returns g c = λ actor reached events old new m is exact ran l.
    alone_fits g.S.Store.told g.S.Store.moment_of g.S.Store.faults_of g.met.S.Store.clock refuses_elsewhere goes_where_aimed actor reached events old new m is exact ran l
