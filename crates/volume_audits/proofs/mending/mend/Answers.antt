use Rattle.volume_audits.specs.declared.mending.Dropped.TheVariants as came
use Rattle.volume_audits.proofs.Mended.{dropped-is, mends-gone, mends-last, mends-not, mends-passed}
use Rattle.volume_audits.proofs.mending.mend.Goals as goal

pub returns-in-Ok-Gone-clause-mends : goal.returns-in-Ok-Gone-clause-mends
returns-in-Ok-Gone-clause-mends g c = mends-gone g.P.Stepper.did c.args.p.now c.drop_copy.new.p c.args.file c.args.line.now c.args.found (dropped-is g.P.Stepper.did c.args.p.now c.drop_copy.new.p c.args.file c.args.line.now c.args.found c.in-Ok-Gone.field-0 came.Gone c.in-Ok-Gone.field-0-is c.in-Ok-Gone.ensures)

pub returns-in-Ok-Passed-clause-mends : goal.returns-in-Ok-Passed-clause-mends
returns-in-Ok-Passed-clause-mends g c = mends-passed g.P.Stepper.did c.args.p.now c.drop_copy.new.p c.args.file c.args.line.now c.args.found (dropped-is g.P.Stepper.did c.args.p.now c.drop_copy.new.p c.args.file c.args.line.now c.args.found c.in-Ok-Passed.field-0 came.Passed c.in-Ok-Passed.field-0-is c.in-Ok-Passed.ensures)

pub returns-in-Ok-Last-clause-mends : goal.returns-in-Ok-Last-clause-mends
returns-in-Ok-Last-clause-mends g c =
    mends-last g.P.Stepper.did g.met.P.Stepper.goes_on c.args.p.now c.drop_copy.new.p c.discard_object.new.p c.args.file c.args.line.now c.args.found c.discard_object.result (dropped-is g.P.Stepper.did c.args.p.now c.drop_copy.new.p c.args.file c.args.line.now c.args.found c.in-Ok-Last.field-0 came.Last c.in-Ok-Last.field-0-is c.in-Ok-Last.ensures) c.discard_object.ensures.discards

pub returns-in-Err-clause-mends : goal.returns-in-Err-clause-mends
returns-in-Err-clause-mends g c = mends-not g.P.Stepper.did c.args.p.now c.drop_copy.new.p c.args.file c.args.line.now c.args.found c.in-Err.refusal c.in-Err.ensures
