use Rattle.std.proofs.Common.{◌≡◌, ◌≤◌, drop, length}
use Rattle.steps.specs.Calls.{Call}
use Rattle.volume_audits.proofs.Audited.{UpTo}
use Rattle.volume_audits.proofs.audit.audit_all.Given as goal

-- the copies so far are audited, and each is counted once at most
abbrev pub invariant-lines : goal.invariant-lines
invariant-lines g l = record {
  audited : Call g.P.Stepper.did l.fn.p l.p (λ events. UpTo l.fix l.file l.lines (drop l.place l.lines) events (record { sound = l.sound; damaged = l.damaged.items; fixed = l.fixed }));
  sound : l.sound ≤ l.place;
  fixed : l.fixed ≤ l.place;
  long : length l.buffer ≡ length l.fn.buffer;
}
