use Rattle.hall.proofs.Spots.{goes_where_aimed, refuses_elsewhere}
use Rattle.crew.proofs.Fitting.{exact_turns}
use Rattle.crew.proofs.Turning.{gone-on, turned}
use Rattle.crew.proofs.laws.blocks_are_turns.Goals as goal

pub returns-clause-turned : goal.returns-clause-turned
returns-clause-turned g c = λ turns hall new m is ran.
    let it = turned g.S.Store.told g.S.Store.moment_of g.S.Store.faults_of g.met.S.Store.clock ⊥ turns hall new m is (λ none. absurd none) ran in
    (it.0, it.1, it.2, it.4)

pub returns-clause-exact : goal.returns-clause-exact
returns-clause-exact g c = λ turns hall new m is known ran.
    exact_turns g.S.Store.told g.S.Store.moment_of g.S.Store.faults_of g.met.S.Store.clock refuses_elsewhere goes_where_aimed turns hall new m is known ran

pub returns-clause-goes : goal.returns-clause-goes
returns-clause-goes g c = λ turns hall new ran. gone-on g.S.Store.told g.S.Store.moment_of g.S.Store.faults_of turns hall new ran
