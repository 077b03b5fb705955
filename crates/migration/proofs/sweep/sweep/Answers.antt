use Rattle.std.proofs.Common.{Some, None}
use Rattle.migration.proofs.Sweeping.{swept-as, sweeping-breaks, sweeping-ends, sweeping-on, sweeping-over, sweeping-start, sweeping-too-far}
use Rattle.migration.proofs.sweep.sweep.Goals as goal

pub pools-init : goal.pools-init
pools-init g c = sweeping-start g.P.Stepper.did g.met.P.Stepper.stays c.args.p.now (g.C.Chooser.picks c.args.chooser.now)

pub pools-preserved : goal.pools-preserved
pools-preserved g c =
    sweeping-on g.P.Stepper.did g.met.P.Stepper.goes_on c.args.p.now c.pools.p c.sweep_one.new.p (g.C.Chooser.picks c.args.chooser.now) c.pools.before c.in-Ok-Some.swept c.pools.so_far c.in-Some.sum
    c.in-Some.ensures c.pools.invariant
    (swept-as g.P.Stepper.did c.pools.p c.sweep_one.new.p (g.C.Chooser.picks c.args.chooser.now) c.pools.before c.in-Ok-Some.field-0 (Some c.in-Ok-Some.swept) c.in-Ok-Some.field-0-is c.in-Ok-Some.ensures)

pub returns-in-None : goal.returns-in-None
returns-in-None g c =
    sweeping-too-far g.P.Stepper.did g.met.P.Stepper.goes_on c.args.p.now c.pools.p c.sweep_one.new.p (g.C.Chooser.picks c.args.chooser.now) c.pools.before c.in-Ok-Some.swept c.pools.so_far c.pools.invariant
    (swept-as g.P.Stepper.did c.pools.p c.sweep_one.new.p (g.C.Chooser.picks c.args.chooser.now) c.pools.before c.in-Ok-Some.field-0 (Some c.in-Ok-Some.swept) c.in-Ok-Some.field-0-is c.in-Ok-Some.ensures)

pub returns-in-Ok-None : goal.returns-in-Ok-None
returns-in-Ok-None g c =
    sweeping-over g.P.Stepper.did g.met.P.Stepper.goes_on c.args.p.now c.pools.p c.sweep_one.new.p (g.C.Chooser.picks c.args.chooser.now) c.pools.before c.pools.so_far c.pools.invariant
    (swept-as g.P.Stepper.did c.pools.p c.sweep_one.new.p (g.C.Chooser.picks c.args.chooser.now) c.pools.before c.in-Ok-None.field-0 None c.in-Ok-None.field-0-is c.in-Ok-None.ensures)

pub returns-in-Err : goal.returns-in-Err
returns-in-Err g c =
    sweeping-breaks g.P.Stepper.did g.met.P.Stepper.goes_on c.args.p.now c.pools.p c.sweep_one.new.p (g.C.Chooser.picks c.args.chooser.now) c.pools.before c.pools.so_far c.in-Err.refusal c.pools.invariant c.in-Err.ensures

pub returns : goal.returns
returns g c = sweeping-ends g.P.Stepper.did c.args.p.now c.pools.p (g.C.Chooser.picks c.args.chooser.now) c.pools.before c.pools.so_far c.pools.invariant
