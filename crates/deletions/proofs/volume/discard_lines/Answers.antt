use Rattle.deletions.proofs.Removing.{takes-ended}
use Rattle.deletions.proofs.volume.discard_lines.Goals as goal

pub returns : goal.returns
returns g c = takes-ended g.P.Stepper.did c.args.p.now c.discard_all.new.p c.args.file c.args.lines.now c.as_slice.result.now c.in-Err-discard_all.refusal c.in-Err-discard_all.ensures
