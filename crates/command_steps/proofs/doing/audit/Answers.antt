use Rattle.volume_audits.specs.Auditing.{VolumeAudit}
use Rattle.command_steps.proofs.Worked.{gives-err, gives-ok}
use Rattle.command_steps.specs.declared.outcome.Outcome.TheVariants.{Audited}
use Rattle.command_steps.proofs.doing.audit.Goals as goal

pub returns-in-Ok-clause-audits : goal.returns-in-Ok-clause-audits
returns-in-Ok-clause-audits g c = gives-ok g.P.Stepper.did c.args.p.now c.audit_volume.new.p (VolumeAudit c.args.fix c.args.file) Audited c.in-Ok.audit c.in-Ok.ensures.audits

pub returns-in-Err-clause-audits : goal.returns-in-Err-clause-audits
returns-in-Err-clause-audits g c = gives-err g.P.Stepper.did c.args.p.now c.audit_volume.new.p (VolumeAudit c.args.fix c.args.file) Audited c.in-Err.refusal c.in-Err.ensures.audits
