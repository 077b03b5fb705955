use Rattle.script_loop.proofs.Underway.{no_reader, says}
use Rattle.script_loop.proofs.script.begin.Goals as goal

pub returns-in-Err-clause-says : goal.returns-in-Err-clause-says
returns-in-Err-clause-says g c = λ script. says g.A.Answerer.serves g.A.Answerer.halts _ _ _ _ _ _ _ c.put_last.result (no_reader g.A.Answerer.serves g.A.Answerer.halts _ script _) c.put_last.ensures.put
