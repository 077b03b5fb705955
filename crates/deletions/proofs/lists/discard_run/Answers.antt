use Rattle.deletions.proofs.Working.{long-then, refused-then, tried-all, tried-breaks}
use Rattle.deletions.proofs.lists.discard_run.Goals as goal

pub returns-in-Ok-Made-clause-works : goal.returns-in-Ok-Made-clause-works
returns-in-Ok-Made-clause-works g c =
    tried-all g.P.Stepper.did c.args.p.now c.try_objects.new.p c.args.reason c.args.objects.now c.in-Ok-Made.field-0 c.in-Ok-Made.field-0-is c.requires c.in-Ok-Made.ensures

pub returns-in-Ok-Refused-clause-works : goal.returns-in-Ok-Refused-clause-works
returns-in-Ok-Refused-clause-works g c =
    refused-then g.P.Stepper.did g.met.P.Stepper.goes_on c.args.p.now c.try_objects.new.p c.one_by_one.new.p c.args.reason c.args.objects.now c.in-Ok-Refused.field-0 c.one_by_one.result
    c.in-Ok-Refused.field-0-is c.in-Ok-Refused.ensures c.one_by_one.ensures.works

pub returns-in-Ok-TooLong-clause-works : goal.returns-in-Ok-TooLong-clause-works
returns-in-Ok-TooLong-clause-works g c =
    long-then g.P.Stepper.did g.met.P.Stepper.goes_on c.args.p.now c.try_objects.new.p c.one_by_one-in-Ok-TooLong.new.p c.args.reason c.args.objects.now c.in-Ok-TooLong.field-0
    c.one_by_one-in-Ok-TooLong.result c.in-Ok-TooLong.field-0-is c.in-Ok-TooLong.ensures c.one_by_one-in-Ok-TooLong.ensures.works

pub returns-in-Err-clause-works : goal.returns-in-Err-clause-works
returns-in-Err-clause-works g c =
    tried-breaks g.P.Stepper.did c.args.p.now c.try_objects.new.p c.args.reason c.args.objects.now c.in-Err.refusal c.in-Err.ensures
