use Rattle.std.proofs.Common.{ℕ}
use Rattle.expiration.specs.Expiring.{Expiration}
use Rattle.reports.specs.declared.shown.Shown.TheVariants.{Expired}
use Rattle.command_steps.proofs.Worked.{gives-err, gives-ok}
use Rattle.command_steps.specs.declared.outcome.Outcome.TheVariants.{Said}
use Rattle.command_steps.proofs.doing.expire_all.Goals as goal

pub returns-in-Ok : goal.returns-in-Ok
returns-in-Ok g c = gives-ok g.P.Stepper.did c.args.p.now c.expire.new.p Expiration (λ (expired : ℕ). Said (Expired expired 0)) c.in-Ok.expired c.in-Ok.ensures

pub returns-in-Err : goal.returns-in-Err
returns-in-Err g c = gives-err g.P.Stepper.did c.args.p.now c.expire.new.p Expiration (λ (expired : ℕ). Said (Expired expired 0)) c.in-Err.refusal c.in-Err.ensures
