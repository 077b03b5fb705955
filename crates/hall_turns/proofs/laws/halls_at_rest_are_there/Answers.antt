use Rattle.hall_turns.proofs.Lefts.{there}
use Rattle.hall_turns.proofs.laws.halls_at_rest_are_there.Goals as goal

pub returns : goal.returns
returns g c = λ hall m h image tells is sound free durable here. there g.S.Store.told g.S.Store.moment_of g.S.Store.faults_of g.met.S.Store.clock hall m h tells is sound free durable image here
