use Rattle.machine.proofs.Fitting.{turns-fit}
use Rattle.machine.proofs.laws.turns_fit.Goals as goal

pub returns : goal.returns
returns g c w actor reached old new turns runs goes l = turns-fit g.P.Placing.places g.P.Placing.refuses g.P.Placing.goes w actor reached old new turns runs goes l
