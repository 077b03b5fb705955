use Rattle.std.proofs.Common.{ℕ}
use Rattle.deletions.specs.Filespaces.{FilespaceDeletion}
use Rattle.reports.specs.declared.shown.Shown.TheVariants.{DiscardedFilespace}
use Rattle.command_steps.proofs.Worked.{gives-err, gives-ok}
use Rattle.command_steps.specs.declared.outcome.Outcome.TheVariants.{Said}
use Rattle.command_steps.proofs.doing.empty_filespace.Goals as goal

pub returns-in-Ok : goal.returns-in-Ok
returns-in-Ok g c = gives-ok g.P.Stepper.did c.args.p.now c.delete_filespace.new.p (FilespaceDeletion c.args.filespace) (λ (discarded : ℕ). Said (DiscardedFilespace discarded 0)) c.in-Ok.discarded c.in-Ok.ensures

pub returns-in-Err : goal.returns-in-Err
returns-in-Err g c = gives-err g.P.Stepper.did c.args.p.now c.delete_filespace.new.p (FilespaceDeletion c.args.filespace) (λ (discarded : ℕ). Said (DiscardedFilespace discarded 0)) c.in-Err.refusal c.in-Err.ensures
