use Rattle.hall.specs.Placed.{hall_places}
use Rattle.machine.proofs.Stamps.{alone-stamps}
use Rattle.hall_turns.proofs.Alones.{alone, goes}
use Rattle.hall_turns.proofs.laws.runs_are_alone.Goals as goal

pub returns-clause-alone : goal.returns-clause-alone
returns-clause-alone g c = λ actor events old new m is ran.
    let it = alone g.S.Store.told g.S.Store.moment_of g.S.Store.faults_of g.met.S.Store.clock ⊥ actor events old new m is (λ none. absurd none) ran in
    (it.0, it.1, it.2, alone-stamps ⊥ hall_places actor events m it.0 it.1)

pub returns-clause-exact : goal.returns-clause-exact
returns-clause-exact g c = λ actor events old new m is known ran.
    let it = alone g.S.Store.told g.S.Store.moment_of g.S.Store.faults_of g.met.S.Store.clock (Unit {0}) actor events old new m is (λ t. known) ran in
    (it.0, it.1, it.2, it.3 tt, alone-stamps (Unit {0}) hall_places actor events m it.0 it.1)

pub returns-clause-goes : goal.returns-clause-goes
returns-clause-goes g c = λ actor events old new ran. goes g.S.Store.told g.S.Store.moment_of g.S.Store.faults_of actor events old new ran
