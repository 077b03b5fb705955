use Rattle.std.proofs.Common.{Result, Err, sym, subst}
use Rattle.kinds.specs.declared.refusal.Refusal.{Refusal}
use Rattle.steps.specs.Calls.{Call}
use Rattle.command_steps.proofs.Worked.{reuses-none}
use Rattle.command_steps.specs.Doing.{Reusing}
use Rattle.command_steps.specs.declared.outcome.Outcome.{Outcome}
use Rattle.command_steps.proofs.behind.reuse_behind.Goals as goal

pub returns-in-Err : goal.returns-in-Err
returns-in-Err g c =
    subst (λ (said : Result Outcome Refusal). Call g.P.Stepper.did c.args.p.now c.args.p.now (λ events. Reusing said events (Err c.in-Err.refusal))) (sym c.in-Err.is)
    (reuses-none g.P.Stepper.did c.args.p.now c.in-Err.refusal (g.met.P.Stepper.stays c.args.p.now))
