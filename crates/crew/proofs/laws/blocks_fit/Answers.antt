use Rattle.hall.proofs.Spots.{goes_where_aimed, refuses_elsewhere}
use Rattle.crew.proofs.Fitting.{block_fits, stays_trusted}
use Rattle.crew.proofs.laws.blocks_fit.Goals as goal

pub returns-clause-fits : goal.returns-clause-fits
returns-clause-fits g c = λ turns hall new m is exact from.
    block_fits g.S.Store.told g.S.Store.moment_of g.S.Store.faults_of g.met.S.Store.clock refuses_elsewhere goes_where_aimed turns hall new m is exact from

pub returns-clause-trusted : goal.returns-clause-trusted
returns-clause-trusted g c = λ turns hall new m is trusted from.
    stays_trusted g.S.Store.told g.S.Store.moment_of g.S.Store.faults_of g.met.S.Store.clock turns hall new m is trusted from
