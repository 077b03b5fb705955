use Rattle.std.proofs.Common.{ℕ, ◌+◌, List, drop, subst, arith, rules, ◌∙◌}
use Rattle.steps.specs.Calls.{Call}
use Rattle.volume_audits.specs.declared.audit.Audit.{Audit}
use Rattle.volume_audits.proofs.Audited.{UpTo, added-as, few-more, next-line, up-break, up-next, up-unnoted}
use Rattle.volume_audits.proofs.audit.audit_all.Goals as goal

pub returns-in-Err-clause-audits : goal.returns-in-Err-clause-audits
returns-in-Err-clause-audits g c =
    up-break g.P.Stepper.did g.met.P.Stepper.goes_on c.args.p.now c.lines.p c.audit_one.new.p c.args.fix c.args.file c.args.lines.now (drop c.lines.place c.args.lines.now) c.index-lines-place.result
    (record { sound = c.lines.sound; damaged = c.lines.damaged.items; fixed = c.lines.fixed }) c.in-Err.refusal c.lines.invariant.audited c.in-Err.ensures.audits

pub returns-in-Err-note-clause-audits : goal.returns-in-Err-note-clause-audits
returns-in-Err-note-clause-audits g c =
    up-unnoted g.P.Stepper.did g.met.P.Stepper.goes_on c.args.p.now c.lines.p c.audit_one.new.p c.args.fix c.args.file c.args.lines.now (drop c.lines.place c.args.lines.now) c.index-lines-place.result
    (record { sound = c.lines.sound; damaged = c.lines.damaged.items; fixed = c.lines.fixed }) c.in-Ok.verdict c.in-Err-note.refusal c.in-Err-note.ensures.err c.lines.invariant.audited c.in-Ok.ensures.audits

pub lines-preserved : goal.lines-preserved
lines-preserved g c =
    record {
      audited =
          subst (λ (a : Audit). Call g.P.Stepper.did c.args.p.now c.audit_one.new.p (λ events. UpTo c.args.fix c.args.file c.args.lines.now (drop (c.lines.place + 1) c.args.lines.now) events a))
          (added-as c.lines.sound c.lines.fixed c.sound_by-sound.result c.lines.damaged.items c.note.new.damaged.items c.index-lines-place.result c.in-Ok.verdict c.sound_by-sound.ensures.is (search rules))
          (up-next g.P.Stepper.did g.met.P.Stepper.goes_on c.args.p.now c.lines.p c.audit_one.new.p c.args.fix c.args.file c.args.lines.now c.lines.place c.index-lines-place.result
          (record { sound = c.lines.sound; damaged = c.lines.damaged.items; fixed = c.lines.fixed }) c.in-Ok.verdict (next-line c.args.lines.now c.lines.place c.index-lines-place.result (omega (arith, c.lines-test.true)) c.index-lines-place.is)
          c.lines.invariant.audited c.in-Ok.ensures.audits);
      sound = few-more c.sound_by-sound.result c.lines.sound c.lines.place c.lines.invariant.sound c.sound_by-sound.ensures.few;
      fixed = few-more c.in-Ok.verdict.fixed c.lines.fixed c.lines.place c.lines.invariant.fixed c.in-Ok.ensures.few;
      long = c.audit_one.ensures.long ∙ c.lines.invariant.long;
    }
