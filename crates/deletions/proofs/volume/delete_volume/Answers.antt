use Rattle.deletions.proofs.Removing.{deletes-volume, volume-not-found}
use Rattle.deletions.proofs.volume.delete_volume.Goals as goal

pub returns-in-Ok : goal.returns-in-Ok
returns-in-Ok g c =
    deletes-volume g.P.Stepper.did g.met.P.Stepper.goes_on c.args.p.now c.find.new.p c.delete_row-result.new.p c.args.discard c.args.file c.in-Ok.row c.delete_row-result.result c.in-Ok.ensures c.delete_row-result.ensures

pub returns-in-Err : goal.returns-in-Err
returns-in-Err g c = volume-not-found g.P.Stepper.did c.args.p.now c.find.new.p c.args.discard c.args.file c.in-Err.refusal c.in-Err.ensures
