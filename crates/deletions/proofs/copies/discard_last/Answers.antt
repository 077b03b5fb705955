use Rattle.std.proofs.Common.{◌∙◌}
use Rattle.deletions.proofs.Dropped.{last-passed}
use Rattle.deletions.proofs.copies.discard_last.Goals as goal

pub returns-in-Ok-Refused-clause-works : goal.returns-in-Ok-Refused-clause-works
returns-in-Ok-Refused-clause-works g c =
    last-passed g.P.Stepper.did c.args.p.now c.try_objects.new.p c.args.file c.args.lines.now c.as_slice.result.now c.in-Ok-Refused.field-0 c.in-Ok-Refused.field-0-is c.requires
    (c.as_slice.ensures ∙ c.in-Ok.ensures) c.in-Ok-Refused.ensures
