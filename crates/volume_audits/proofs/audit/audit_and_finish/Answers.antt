use Rattle.std.proofs.Common.{Ok, Err}
use Rattle.volume_audits.proofs.Audited.{ends}
use Rattle.volume_audits.proofs.audit.audit_and_finish.Goals as goal

pub returns-in-Ok-finish-clause-audits : goal.returns-in-Ok-finish-clause-audits
returns-in-Ok-finish-clause-audits g c =
    ends g.P.Stepper.did g.met.P.Stepper.goes_on c.args.p.now c.audit_all.new.p c.finish.new.p c.args.fix c.args.file c.args.lines.now c.in-Ok.audit (Ok tt) c.in-Ok.ensures.audits c.in-Ok-finish.ensures

pub returns-in-Err-finish-clause-audits : goal.returns-in-Err-finish-clause-audits
returns-in-Err-finish-clause-audits g c =
    ends g.P.Stepper.did g.met.P.Stepper.goes_on c.args.p.now c.audit_all.new.p c.finish.new.p c.args.fix c.args.file c.args.lines.now c.in-Ok.audit (Err c.in-Err-finish.refusal) c.in-Ok.ensures.audits c.in-Err-finish.ensures
