use Rattle.std.proofs.Common.{arith}
use Rattle.deletions.proofs.Dropped.{drops-ended, drops-last, drops-long, drops-made}
use Rattle.deletions.proofs.copies.drop_alone.Goals as goal

pub returns-in-Ok-Made-clause-works : goal.returns-in-Ok-Made-clause-works
returns-in-Ok-Made-clause-works g c =
    drops-made g.P.Stepper.did c.args.p.now c.try_copies.new.p c.args.file c.args.lines.now c.in-Ok-Made.field-0 c.in-Ok-Made.field-0-is (omega (arith, c.requires)) c.in-Ok-Made.ensures

pub returns-in-Ok-Refused-clause-works : goal.returns-in-Ok-Refused-clause-works
returns-in-Ok-Refused-clause-works g c =
    drops-last g.P.Stepper.did g.met.P.Stepper.goes_on c.args.p.now c.try_copies.new.p c.discard_last.new.p c.args.file c.args.lines.now c.in-Ok-Refused.field-0 c.discard_last.result
    c.in-Ok-Refused.field-0-is c.requires c.in-Ok-Refused.ensures c.discard_last.ensures.works

pub returns-in-Ok-TooLong-clause-works : goal.returns-in-Ok-TooLong-clause-works
returns-in-Ok-TooLong-clause-works g c =
    drops-long g.P.Stepper.did c.args.p.now c.try_copies.new.p c.args.file c.args.lines.now c.in-Ok-TooLong.field-0 c.in-Ok-TooLong.field-0-is c.in-Ok-TooLong.ensures

pub returns-in-Err-clause-works : goal.returns-in-Err-clause-works
returns-in-Err-clause-works g c = drops-ended g.P.Stepper.did c.args.p.now c.try_copies.new.p c.args.file c.args.lines.now c.in-Err.refusal c.in-Err.ensures
