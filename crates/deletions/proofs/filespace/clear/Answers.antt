use Rattle.deletions.proofs.Whole.{clears}
use Rattle.deletions.proofs.filespace.clear.Goals as goal

pub returns : goal.returns
returns g c =
    clears g.P.Stepper.did g.met.P.Stepper.goes_on c.args.p.now c.list_objects.new.p c.discard_all.new.p c.args.filespace c.args.names.now c.in-Ok.objects c.as_slice.result.now c.discard_all.result
    c.as_slice.ensures c.in-Ok.ensures c.discard_all.ensures
