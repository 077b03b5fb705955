use Rattle.volume_audits.specs.declared.looking.Found.TheVariants as found
use Rattle.volume_audits.proofs.Audited.{audits-damaged, audits-unlooked, audits-unmended, audits-unread}
use Rattle.volume_audits.proofs.Looked.{looks-is}
use Rattle.volume_audits.proofs.audit.audit_one.Goals as goal

pub returns-in-Ok-Unread-clause-audits : goal.returns-in-Ok-Unread-clause-audits
returns-in-Ok-Unread-clause-audits g c =
    audits-unread g.P.Stepper.did c.args.p.now c.look.new.p c.args.fix c.args.file c.args.line.now
    (looks-is g.P.Stepper.did c.args.p.now c.look.new.p c.args.line.now c.in-Ok-Unread.field-0 found.Unread c.in-Ok-Unread.field-0-is c.in-Ok-Unread.ensures.looks)

pub returns-in-Ok-clause-audits : goal.returns-in-Ok-clause-audits
returns-in-Ok-clause-audits g c =
    audits-damaged g.P.Stepper.did g.met.P.Stepper.goes_on c.args.p.now c.look.new.p c.mend_if.new.p c.args.fix c.args.file c.args.line.now c.in-Ok-Damaged.digest c.in-Ok.fixed
    (looks-is g.P.Stepper.did c.args.p.now c.look.new.p c.args.line.now c.in-Ok-Damaged.field-0 (found.Damaged c.in-Ok-Damaged.digest) c.in-Ok-Damaged.field-0-is c.in-Ok-Damaged.ensures.looks) c.in-Ok.ensures.mends

pub returns-in-Err-mend_if-clause-audits : goal.returns-in-Err-mend_if-clause-audits
returns-in-Err-mend_if-clause-audits g c =
    audits-unmended g.P.Stepper.did g.met.P.Stepper.goes_on c.args.p.now c.look.new.p c.mend_if.new.p c.args.fix c.args.file c.args.line.now c.in-Ok-Damaged.digest c.in-Err-mend_if.refusal
    (looks-is g.P.Stepper.did c.args.p.now c.look.new.p c.args.line.now c.in-Ok-Damaged.field-0 (found.Damaged c.in-Ok-Damaged.digest) c.in-Ok-Damaged.field-0-is c.in-Ok-Damaged.ensures.looks) c.in-Err-mend_if.ensures.mends

pub returns-in-Err-clause-audits : goal.returns-in-Err-clause-audits
returns-in-Err-clause-audits g c = audits-unlooked g.P.Stepper.did c.args.p.now c.look.new.p c.args.fix c.args.file c.args.line.now c.in-Err.refusal c.in-Err.ensures.looks
