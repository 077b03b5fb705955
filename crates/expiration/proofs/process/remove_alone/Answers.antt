use Rattle.expiration.proofs.Working.{tried-all, tried-breaks, tried-long, tried-one}
use Rattle.expiration.proofs.process.remove_alone.Goals as goal

pub returns-in-Ok-Removed-clause-works : goal.returns-in-Ok-Removed-clause-works
returns-in-Ok-Removed-clause-works g c =
    tried-all g.P.Stepper.did c.args.p.now c.try_lines.new.p c.args.filespace c.args.lines.now c.in-Ok-Removed.field-0 c.in-Ok-Removed.field-0-is c.requires.of c.in-Ok-Removed.ensures

pub returns-in-Ok-Refused-clause-works : goal.returns-in-Ok-Refused-clause-works
returns-in-Ok-Refused-clause-works g c =
    tried-one g.P.Stepper.did c.args.p.now c.try_lines.new.p c.args.filespace c.args.lines.now c.in-Ok-Refused.field-0 c.in-Ok-Refused.field-0-is c.requires.of c.requires.one c.in-Ok-Refused.ensures

pub returns-in-Ok-TooLong-clause-works : goal.returns-in-Ok-TooLong-clause-works
returns-in-Ok-TooLong-clause-works g c =
    tried-long g.P.Stepper.did c.args.p.now c.try_lines.new.p c.args.filespace c.args.lines.now c.in-Ok-TooLong.field-0 c.in-Ok-TooLong.field-0-is c.in-Ok-TooLong.ensures

pub returns-in-Err-clause-works : goal.returns-in-Err-clause-works
returns-in-Err-clause-works g c =
    tried-breaks g.P.Stepper.did c.args.p.now c.try_lines.new.p c.args.filespace c.args.lines.now c.in-Err.refusal c.in-Err.ensures
