use Rattle.script_loop.proofs.Underway.{says}
use Rattle.script_loop.proofs.script.run.Goals as goal

pub returns-in-Some-clause-runs : goal.returns-in-Some-clause-runs
returns-in-Some-clause-runs g c = λ start first contents stands. says g.A.Answerer.serves g.A.Answerer.halts _ _ _ _ _ _ _ c.put_last.result (c.in-Some.ensures.stops start first contents stands) c.put_last.ensures.put
