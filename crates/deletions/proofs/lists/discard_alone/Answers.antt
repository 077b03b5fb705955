use Rattle.std.proofs.Common.{arith}
use Rattle.deletions.proofs.Working.{tried-all, tried-breaks, tried-long, tried-one}
use Rattle.deletions.proofs.lists.discard_alone.Goals as goal

pub returns-in-Ok-Made-clause-works : goal.returns-in-Ok-Made-clause-works
returns-in-Ok-Made-clause-works g c =
    tried-all g.P.Stepper.did c.args.p.now c.try_objects.new.p c.args.reason c.args.objects.now c.in-Ok-Made.field-0 c.in-Ok-Made.field-0-is (omega (arith, c.requires)) c.in-Ok-Made.ensures

pub returns-in-Ok-Refused-clause-works : goal.returns-in-Ok-Refused-clause-works
returns-in-Ok-Refused-clause-works g c =
    tried-one g.P.Stepper.did c.args.p.now c.try_objects.new.p c.args.reason c.args.objects.now c.in-Ok-Refused.field-0 c.in-Ok-Refused.field-0-is c.requires c.in-Ok-Refused.ensures

pub returns-in-Ok-TooLong-clause-works : goal.returns-in-Ok-TooLong-clause-works
returns-in-Ok-TooLong-clause-works g c =
    tried-long g.P.Stepper.did c.args.p.now c.try_objects.new.p c.args.reason c.args.objects.now c.in-Ok-TooLong.field-0 c.in-Ok-TooLong.field-0-is c.in-Ok-TooLong.ensures

pub returns-in-Err-clause-works : goal.returns-in-Err-clause-works
returns-in-Err-clause-works g c =
    tried-breaks g.P.Stepper.did c.args.p.now c.try_objects.new.p c.args.reason c.args.objects.now c.in-Err.refusal c.in-Err.ensures
