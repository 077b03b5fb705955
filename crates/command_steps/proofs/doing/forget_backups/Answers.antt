use Rattle.std.proofs.Common.{ℕ}
use Rattle.db_backup.specs.Deleting.{HistoryDeletion}
use Rattle.reports.specs.declared.shown.Shown.TheVariants.{DeletedHistory}
use Rattle.command_steps.proofs.Worked.{gives-err, gives-ok}
use Rattle.command_steps.specs.declared.outcome.Outcome.TheVariants.{Said}
use Rattle.command_steps.proofs.doing.forget_backups.Goals as goal

pub returns-in-Ok : goal.returns-in-Ok
returns-in-Ok g c = gives-ok g.P.Stepper.did c.args.p.now c.delete_history.new.p (HistoryDeletion c.args.to) (λ (deleted : ℕ). Said (DeletedHistory deleted)) c.in-Ok.deleted c.in-Ok.ensures

pub returns-in-Err : goal.returns-in-Err
returns-in-Err g c = gives-err g.P.Stepper.did c.args.p.now c.delete_history.new.p (HistoryDeletion c.args.to) (λ (deleted : ℕ). Said (DeletedHistory deleted)) c.in-Err.refusal c.in-Err.ensures
