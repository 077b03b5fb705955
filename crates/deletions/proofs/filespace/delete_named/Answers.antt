use Rattle.std.proofs.Common.{Ok, Err}
use Rattle.deletions.proofs.Whole.{empties, unemptied}
use Rattle.deletions.proofs.filespace.delete_named.Goals as goal

pub returns-in-Ok-remove : goal.returns-in-Ok-remove
returns-in-Ok-remove g c =
    empties g.P.Stepper.did g.met.P.Stepper.goes_on c.args.p.now c.clear.new.p c.remove.new.p c.args.filespace c.args.names.now c.in-Ok.count (Ok tt) c.in-Ok.ensures c.in-Ok-remove.ensures

pub returns-in-Err-remove : goal.returns-in-Err-remove
returns-in-Err-remove g c =
    empties g.P.Stepper.did g.met.P.Stepper.goes_on c.args.p.now c.clear.new.p c.remove.new.p c.args.filespace c.args.names.now c.in-Ok.count (Err c.in-Err-remove.refusal) c.in-Ok.ensures c.in-Err-remove.ensures

pub returns-in-Err : goal.returns-in-Err
returns-in-Err g c = unemptied g.P.Stepper.did c.args.p.now c.clear.new.p c.args.filespace c.args.names.now c.in-Err.refusal c.in-Err.ensures
