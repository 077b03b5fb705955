use Rattle.volume_audits.proofs.Audited.{whole, whole-not}
use Rattle.volume_audits.proofs.audit.audit_volume.Goals as goal

pub returns-in-Ok-clause-audits : goal.returns-in-Ok-clause-audits
returns-in-Ok-clause-audits g c =
    whole g.P.Stepper.did g.met.P.Stepper.goes_on c.args.p.now c.list.new.p c.audit_and_finish.new.p c.args.fix c.args.file c.in-Ok.lines c.as_slice.result.now c.audit_and_finish.result c.as_slice.ensures
    c.in-Ok.ensures c.audit_and_finish.ensures.audits

pub returns-in-Err-clause-audits : goal.returns-in-Err-clause-audits
returns-in-Err-clause-audits g c = whole-not g.P.Stepper.did c.args.p.now c.list.new.p c.args.fix c.args.file c.in-Err.refusal c.in-Err.ensures
