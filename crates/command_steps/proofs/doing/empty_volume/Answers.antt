use Rattle.std.proofs.Common.{true}
use Rattle.deletions.specs.Volumes.{VolumeDeletion}
use Rattle.deletions.specs.declared.copies.Removed.{Removed}
use Rattle.reports.specs.declared.shown.Shown.TheVariants.{DeletedVolume}
use Rattle.command_steps.proofs.Worked.{gives-err, gives-ok}
use Rattle.command_steps.specs.declared.outcome.Outcome.TheVariants.{Said}
use Rattle.command_steps.proofs.doing.empty_volume.Goals as goal

pub returns-in-Ok : goal.returns-in-Ok
returns-in-Ok g c = gives-ok g.P.Stepper.did c.args.p.now c.delete_volume.new.p (VolumeDeletion true c.args.file) (λ (went : Removed). Said (DeletedVolume went.discarded went.dropped)) c.in-Ok.went c.in-Ok.ensures

pub returns-in-Err : goal.returns-in-Err
returns-in-Err g c = gives-err g.P.Stepper.did c.args.p.now c.delete_volume.new.p (VolumeDeletion true c.args.file) (λ (went : Removed). Said (DeletedVolume went.discarded went.dropped)) c.in-Err.refusal c.in-Err.ensures
