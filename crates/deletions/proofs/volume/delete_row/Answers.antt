use Rattle.std.proofs.Common.{Ok, Err}
use Rattle.deletions.proofs.Removing.{empties-row, unemptied-row}
use Rattle.deletions.proofs.volume.delete_row.Goals as goal

pub returns-in-Ok-remove : goal.returns-in-Ok-remove
returns-in-Ok-remove g c =
    empties-row g.P.Stepper.did g.met.P.Stepper.goes_on c.args.p.now c.clear_if.new.p c.remove.new.p c.args.discard c.args.row.now c.args.file c.in-Ok.removed (Ok tt) c.in-Ok.ensures c.in-Ok-remove.ensures

pub returns-in-Err-remove : goal.returns-in-Err-remove
returns-in-Err-remove g c =
    empties-row g.P.Stepper.did g.met.P.Stepper.goes_on c.args.p.now c.clear_if.new.p c.remove.new.p c.args.discard c.args.row.now c.args.file c.in-Ok.removed (Err c.in-Err-remove.refusal) c.in-Ok.ensures
    c.in-Err-remove.ensures

pub returns-in-Err : goal.returns-in-Err
returns-in-Err g c = unemptied-row g.P.Stepper.did c.args.p.now c.clear_if.new.p c.args.discard c.args.row.now c.args.file c.in-Err.refusal c.in-Err.ensures
