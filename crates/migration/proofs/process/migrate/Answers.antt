use Rattle.std.proofs.Common.{Ok}
use Rattle.migration.proofs.Whole.{migration-done, migration-rises, migration-unforced}
use Rattle.migration.proofs.process.migrate.Goals as goal

pub returns-in-Ok-force-clause-came : goal.returns-in-Ok-force-clause-came
returns-in-Ok-force-clause-came g c =
    migration-done g.P.Stepper.did g.met.P.Stepper.goes_on c.args.p.now c.lower.new.p c.force.new.self (g.C.Chooser.picks c.args.chooser.now) c.args.pool c.args.low c.in-Ok-force.field-0 c.in-Ok.moved c.in-Ok.ensures
    c.in-Ok-force.ensures

pub returns-in-Ok-force-clause-rise : goal.returns-in-Ok-force-clause-rise
returns-in-Ok-force-clause-rise g c =
    migration-rises g.P.Stepper.did g.P.Stepper.refused_of g.met.P.Stepper.counts c.args.p.now c.force.new.self (g.C.Chooser.picks c.args.chooser.now) c.args.pool c.args.low (Ok c.in-Ok.moved)
    (returns-in-Ok-force-clause-came g c)

pub returns-in-Err-force-clause-came : goal.returns-in-Err-force-clause-came
returns-in-Err-force-clause-came g c =
    migration-unforced g.P.Stepper.did g.met.P.Stepper.goes_on c.args.p.now c.lower.new.p c.force.new.self (g.C.Chooser.picks c.args.chooser.now) c.args.pool c.args.low c.in-Ok.moved c.in-Err-force.refusal
    c.stopping.result c.stopping.ensures c.in-Ok.ensures c.in-Err-force.ensures
