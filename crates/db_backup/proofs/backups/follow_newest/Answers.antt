use Rattle.std.proofs.Common.{ap, ◌∙◌}
use Rattle.db_backup.proofs.Causes.{follows-not, follows-on}
use Rattle.db_backup.specs.Listing.{newest_file}
use Rattle.db_backup.proofs.backups.follow_newest.Goals as goal

pub returns-in-Ok : goal.returns-in-Ok
returns-in-Ok g c =
    follows-on g.P.Stepper.did g.met.P.Stepper.goes_on c.args.p.now c.list.new.p c.follow.new.p c.in-Ok.lines c.newest_file-after.result c.follow.result (c.newest_file-after.ensures ∙ ap newest_file c.as_slice.ensures)
    c.in-Ok.ensures c.follow.ensures

pub returns-in-Err : goal.returns-in-Err
returns-in-Err g c = follows-not g.P.Stepper.did c.args.p.now c.list.new.p c.in-Err.refusal c.in-Err.ensures
