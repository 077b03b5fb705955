use Rattle.std.proofs.Common.{Some, None}
use Rattle.migration.proofs.Sweeping.{due-as, sweep-broke, sweep-moved, sweep-none, sweep-unasked}
use Rattle.migration.proofs.sweep.sweep_one.Goals as goal

pub returns-in-Ok-None : goal.returns-in-Ok-None
returns-in-Ok-None g c =
    sweep-none g.P.Stepper.did c.args.p.now c.ask_due.new.p (g.C.Chooser.picks c.args.chooser.now) c.args.before
    (due-as g.P.Stepper.did c.args.p.now c.ask_due.new.p c.args.before c.in-Ok-None.field-0 None c.in-Ok-None.field-0-is c.in-Ok-None.ensures)

pub returns-in-Err : goal.returns-in-Err
returns-in-Err g c = sweep-unasked g.P.Stepper.did c.args.p.now c.ask_due.new.p (g.C.Chooser.picks c.args.chooser.now) c.args.before c.in-Err.refusal c.in-Err.ensures

pub returns-in-Ok : goal.returns-in-Ok
returns-in-Ok g c =
    sweep-moved g.P.Stepper.did g.met.P.Stepper.goes_on c.args.p.now c.ask_due.new.p c.lower.new.p (g.C.Chooser.picks c.args.chooser.now) c.args.before c.in-Ok-Some.next c.in-Ok.moved
    (due-as g.P.Stepper.did c.args.p.now c.ask_due.new.p c.args.before c.in-Ok-Some.field-0 (Some c.in-Ok-Some.next) c.in-Ok-Some.field-0-is c.in-Ok-Some.ensures) c.in-Ok.ensures

pub returns-in-Err-lower : goal.returns-in-Err-lower
returns-in-Err-lower g c =
    sweep-broke g.P.Stepper.did g.met.P.Stepper.goes_on c.args.p.now c.ask_due.new.p c.lower.new.p (g.C.Chooser.picks c.args.chooser.now) c.args.before c.in-Ok-Some.next c.in-Err-lower.refusal
    (due-as g.P.Stepper.did c.args.p.now c.ask_due.new.p c.args.before c.in-Ok-Some.field-0 (Some c.in-Ok-Some.next) c.in-Ok-Some.field-0-is c.in-Ok-Some.ensures) c.in-Err-lower.ensures
