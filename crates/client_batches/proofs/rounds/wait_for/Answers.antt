use Rattle.std.proofs.Common.{Option, Ok, Err, subst, sym}
use Rattle.kinds.specs.declared.refusal.Holder.{Holder}
use Rattle.steps.specs.Calls.{Call}
use Rattle.client_batches.specs.Rounds.{AwaitsOne}
use Rattle.client_batches.proofs.Rounding.{awaits-none, awaits-over, awaits-refused}
use Rattle.client_batches.proofs.rounds.wait_for.Goals as goal

pub returns-in-None : goal.returns-in-None
returns-in-None g c =
    subst (λ (o : Option Holder). Call g.P.Stepper.did c.args.p.now c.args.p.now (λ events. AwaitsOne o events (Ok tt))) (sym c.in-None.is)
    (awaits-none g.P.Stepper.did c.args.p.now (g.met.P.Stepper.stays c.args.p.now))

pub returns-in-Ok : goal.returns-in-Ok
returns-in-Ok g c =
    subst (λ (o : Option Holder). Call g.P.Stepper.did c.args.p.now c.wait.new.self (λ events. AwaitsOne o events (Ok tt))) (sym c.in-Some.is)
    (awaits-over g.P.Stepper.did c.args.p.now c.wait.new.self c.in-Some.holder c.in-Ok.ensures)

pub returns-in-Err : goal.returns-in-Err
returns-in-Err g c =
    subst (λ (o : Option Holder). Call g.P.Stepper.did c.args.p.now c.wait.new.self (λ events. AwaitsOne o events (Err c.unwaited.result))) (sym c.in-Some.is)
    (awaits-refused g.P.Stepper.did c.args.p.now c.wait.new.self c.in-Some.holder c.in-Err.refusal c.unwaited.result c.in-Err.ensures c.unwaited.ensures)
