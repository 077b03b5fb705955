use Rattle.pool_restores.proofs.Destroying.{restores-of, volume-refused, volume-rises}
use Rattle.pool_restores.proofs.volume.restore_volume.Goals as goal

pub returns-in-Err-clause-came : goal.returns-in-Err-clause-came
returns-in-Err-clause-came g c = volume-refused g.P.Stepper.did c.args.p.now c.begin.new.p c.args.file c.in-Err.refusal c.in-Err.ensures

pub returns-clause-came : goal.returns-clause-came
returns-clause-came g c =
    restores-of g.P.Stepper.did g.met.P.Stepper.goes_on c.args.p.now c.begin.new.p c.copy_and_finish.new.p c.args.file c.in-Ok.wanted c.as_slice.result.now c.copy_and_finish.result c.as_slice.ensures
    c.in-Ok.ensures c.copy_and_finish.ensures

pub returns-clause-rise : goal.returns-clause-rise
returns-clause-rise g c =
    volume-rises g.P.Stepper.did g.P.Stepper.refused_of g.met.P.Stepper.counts c.args.p.now c.copy_and_finish.new.p c.args.file c.copy_and_finish.result (returns-clause-came g c)
