use Rattle.machine.proofs.Cases.{made-says}
use Rattle.machine.proofs.laws.steps_are_told.Goals as goal

pub returns : goal.returns
returns g c actor deed old new h = made-says g.P.Placing.places g.P.Placing.refuses actor deed old new h
