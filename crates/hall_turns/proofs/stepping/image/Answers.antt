use Rattle.steps.specs.declared.image.ImageKind.TheVariants.{Backup, Checkpoint, Next, Since}
use Rattle.hall_turns.proofs.Valued.{of_kind}
use Rattle.hall_turns.proofs.stepping.image.Goals as goal

pub returns-in-Checkpoint-clause-step : goal.returns-in-Checkpoint-clause-step
returns-in-Checkpoint-clause-step g c =
    of_kind g.S.Store.told g.S.Store.moment_of g.S.Store.faults_of c.args.actor c.args.kind Checkpoint c.checkpoint.result c.args.hall.now c.checkpoint.new.self c.in-Checkpoint.is c.checkpoint.ensures.step

pub returns-in-Backup-clause-step : goal.returns-in-Backup-clause-step
returns-in-Backup-clause-step g c =
    of_kind g.S.Store.told g.S.Store.moment_of g.S.Store.faults_of c.args.actor c.args.kind Backup c.backup.result c.args.hall.now c.backup.new.self c.in-Backup.is c.backup.ensures.step

pub returns-in-Since-clause-step : goal.returns-in-Since-clause-step
returns-in-Since-clause-step g c =
    of_kind g.S.Store.told g.S.Store.moment_of g.S.Store.faults_of c.args.actor c.args.kind (Since c.in-Since.after) c.backup_since.result c.args.hall.now c.backup_since.new.self c.in-Since.is c.backup_since.ensures.step

pub returns-in-Next-clause-step : goal.returns-in-Next-clause-step
returns-in-Next-clause-step g c =
    of_kind g.S.Store.told g.S.Store.moment_of g.S.Store.faults_of c.args.actor c.args.kind Next c.next_image.result c.args.hall.now c.next_image.new.self c.in-Next.is c.next_image.ensures.step
