use Rattle.deletions.proofs.Whole.{held-refused, lists-both}
use Rattle.deletions.proofs.filespace.list_objects.Goals as goal

pub returns-in-Ok-list_held : goal.returns-in-Ok-list_held
returns-in-Ok-list_held g c =
    lists-both g.P.Stepper.did g.met.P.Stepper.goes_on c.args.p.now c.list_versions.new.p c.list_held.new.p c.args.filespace c.args.names.now c.in-Ok.lines c.as_slice.result.now c.in-Ok-list_held.held
    c.as_slice-in-Ok-list_held.result.now c.both.result c.as_slice.ensures c.as_slice-in-Ok-list_held.ensures c.both.ensures c.in-Ok.ensures c.in-Ok-list_held.ensures

pub returns : goal.returns
returns g c =
    held-refused g.P.Stepper.did g.met.P.Stepper.goes_on c.args.p.now c.list_versions.new.p c.list_held.new.p c.args.filespace c.args.names.now c.in-Ok.lines c.in-Err-list_held.refusal c.in-Ok.ensures c.in-Err-list_held.ensures
