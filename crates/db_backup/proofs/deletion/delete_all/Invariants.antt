use Rattle.std.proofs.Common.{◌≤◌, drop}
use Rattle.steps.specs.Calls.{Call}
use Rattle.db_backup.proofs.Deleting.{UpTo}
use Rattle.db_backup.proofs.deletion.delete_all.Given as goal

-- those so far were tried, and at most one went for each
abbrev pub invariant-files : goal.invariant-files
invariant-files g l = record {
  tried : Call g.P.Stepper.did l.fn.p l.p (λ events. UpTo l.files (drop l.place l.files) events l.count);
  few : l.count ≤ l.place;
}
