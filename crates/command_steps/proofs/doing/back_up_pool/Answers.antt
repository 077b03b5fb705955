use Rattle.copy_pools.specs.Backups.{Backup}
use Rattle.copy_runs.specs.declared.wanted.Moved.{Moved}
use Rattle.reports.specs.declared.shown.Shown.TheVariants.{Copied}
use Rattle.command_steps.proofs.Worked.{gives-err, gives-ok}
use Rattle.command_steps.specs.declared.outcome.Outcome.TheVariants.{Said}
use Rattle.command_steps.proofs.doing.back_up_pool.Goals as goal

pub returns-in-Ok : goal.returns-in-Ok
returns-in-Ok g c = gives-ok g.P.Stepper.did c.args.p.now c.backup_pool.new.p (Backup c.args.primary c.args.copy) (λ (copies : Moved). Said (Copied copies.moved copies.failed)) c.in-Ok.copies c.in-Ok.ensures.came

pub returns-in-Err : goal.returns-in-Err
returns-in-Err g c = gives-err g.P.Stepper.did c.args.p.now c.backup_pool.new.p (Backup c.args.primary c.args.copy) (λ (copies : Moved). Said (Copied copies.moved copies.failed)) c.in-Err.refusal c.in-Err.ensures.came
