use Rattle.std.proofs.Common.{List, ap, ◌∙◌}
use Rattle.inventory_answers.specs.declared.lines.BackupLine.{BackupLine}
use Rattle.db_backup.specs.Listing.{due_files}
use Rattle.db_backup.proofs.Deleting.{unlisted, unwritten, whole}
use Rattle.db_backup.proofs.deletion.delete_history.Goals as goal

pub returns-in-Err : goal.returns-in-Err
returns-in-Err g c = unlisted g.P.Stepper.did c.args.p.now c.list.new.p c.args.to c.in-Err.refusal c.in-Err.ensures

pub returns-in-Err-due_files : goal.returns-in-Err-due_files
returns-in-Err-due_files g c = unwritten g.P.Stepper.did c.args.p.now c.list.new.p c.args.to c.in-Ok.lines c.in-Err-due_files.refusal c.in-Err-due_files.ensures c.in-Ok.ensures

pub returns : goal.returns
returns g c =
    whole g.P.Stepper.did g.met.P.Stepper.goes_on c.args.p.now c.list.new.p c.delete_and_finish.new.p c.args.to c.in-Ok.lines c.as_slice-2.result.now c.delete_and_finish.result
    (c.as_slice-2.ensures.value ∙ c.in-Ok-due_files.ensures ∙ ap (λ (ls : List BackupLine). due_files c.args.to ls) c.as_slice.ensures) c.in-Ok.ensures c.delete_and_finish.ensures
