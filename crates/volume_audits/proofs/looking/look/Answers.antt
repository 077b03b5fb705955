use Rattle.std.proofs.Common.{◌∙◌, sym, true≢false}
use Rattle.volume_audits.proofs.Looked.{looks-damaged, looks-not, looks-sound}
use Rattle.volume_audits.proofs.looking.look.Goals as goal

pub returns-then-is_same-clause-looks : goal.returns-then-is_same-clause-looks
returns-then-is_same-clause-looks g c = looks-sound g.P.Stepper.did c.args.p.now c.read_all.new.p c.args.line.now c.in-Ok.found (c.is_same.ensures.0 c.if-is_same.true) c.in-Ok.ensures.reads

pub returns-else-is_same-clause-looks : goal.returns-else-is_same-clause-looks
returns-else-is_same-clause-looks g c =
    looks-damaged g.P.Stepper.did c.args.p.now c.read_all.new.p c.args.line.now c.in-Ok.found (λ e. absurd (true≢false (sym (c.is_same.ensures.1 e) ∙ c.if-is_same.false))) c.in-Ok.ensures.reads

pub returns-in-Err-clause-looks : goal.returns-in-Err-clause-looks
returns-in-Err-clause-looks g c = looks-not g.P.Stepper.did c.args.p.now c.read_all.new.p c.args.line.now c.in-Err.refusal c.unread.result c.unread.ensures c.in-Err.ensures.reads
