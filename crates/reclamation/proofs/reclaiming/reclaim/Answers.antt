use Rattle.reclamation.proofs.Reclaimed.{reclaim-refused, reclaim-rises, reclaims}
use Rattle.reclamation.proofs.reclaiming.reclaim.Goals as goal

pub returns-in-Err-clause-came : goal.returns-in-Err-clause-came
returns-in-Err-clause-came g c = reclaim-refused g.P.Stepper.did c.args.p.now c.begin.new.p c.args.pool c.args.threshold c.in-Err.refusal c.in-Err.ensures

pub returns-clause-came : goal.returns-clause-came
returns-clause-came g c =
    reclaims g.P.Stepper.did g.met.P.Stepper.goes_on c.args.p.now c.begin.new.p c.clear_and_finish.new.p c.args.pool c.args.threshold c.in-Ok.files c.as_slice.result.now c.clear_and_finish.result
    c.as_slice.ensures c.in-Ok.ensures c.clear_and_finish.ensures

pub returns-clause-rise : goal.returns-clause-rise
returns-clause-rise g c =
    reclaim-rises g.P.Stepper.did g.P.Stepper.refused_of g.met.P.Stepper.counts c.args.p.now c.clear_and_finish.new.p c.args.pool c.args.threshold c.clear_and_finish.result
    (reclaims g.P.Stepper.did g.met.P.Stepper.goes_on c.args.p.now c.begin.new.p c.clear_and_finish.new.p c.args.pool c.args.threshold c.in-Ok.files c.as_slice.result.now c.clear_and_finish.result
    c.as_slice.ensures c.in-Ok.ensures c.clear_and_finish.ensures)
