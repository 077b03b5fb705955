use Rattle.std.proofs.Common.{Ok}
use Rattle.migration.proofs.Sweeping.{all-broke, all-done, all-rises, all-unforced}
use Rattle.migration.proofs.process.migrate_all.Goals as goal

pub returns-in-Err-clause-came : goal.returns-in-Err-clause-came
returns-in-Err-clause-came g c = all-broke g.P.Stepper.did c.args.p.now c.sweep.new.p (g.C.Chooser.picks c.args.chooser.now) c.in-Err.refusal c.in-Err.ensures

pub returns-in-Ok-force-clause-came : goal.returns-in-Ok-force-clause-came
returns-in-Ok-force-clause-came g c =
    all-done g.P.Stepper.did g.met.P.Stepper.goes_on c.args.p.now c.sweep.new.p c.force.new.self (g.C.Chooser.picks c.args.chooser.now) c.in-Ok-force.field-0 c.in-Ok.moved c.in-Ok.ensures c.in-Ok-force.ensures

pub returns-in-Ok-force-clause-rise : goal.returns-in-Ok-force-clause-rise
returns-in-Ok-force-clause-rise g c =
    all-rises g.P.Stepper.did g.P.Stepper.refused_of g.met.P.Stepper.counts c.args.p.now c.force.new.self (g.C.Chooser.picks c.args.chooser.now) (Ok c.in-Ok.moved) (returns-in-Ok-force-clause-came g c)

pub returns-in-Err-force-clause-came : goal.returns-in-Err-force-clause-came
returns-in-Err-force-clause-came g c =
    all-unforced g.P.Stepper.did g.met.P.Stepper.goes_on c.args.p.now c.sweep.new.p c.force.new.self (g.C.Chooser.picks c.args.chooser.now) c.in-Ok.moved c.in-Err-force.refusal c.stopping.result
    c.stopping.ensures c.in-Ok.ensures c.in-Err-force.ensures
