use Rattle.std.proofs.Common.{ℕ, Option, Some, subst, sym}
use Rattle.steps.specs.Calls.{Call}
use Rattle.db_backup.specs.Backups.{Follows}
use Rattle.db_backup.proofs.Causes.{backup-by}
use Rattle.db_backup.proofs.backups.follow.Goals as goal

pub returns-in-Some : goal.returns-in-Some
returns-in-Some g c =
    subst (λ (o : Option ℕ). Call g.P.Stepper.did c.args.p.now c.take.new.p (λ events. Follows o events c.take.result)) (sym c.in-Some.is)
    (backup-by g.P.Stepper.did c.args.p.now c.take.new.p (Some c.in-Some.after) c.take.result c.take.ensures)
