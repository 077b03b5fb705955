use Rattle.std.proofs.Common.{◌≡◌, ◌≤◌, ◌-◌, length}
use Rattle.steps.specs.Calls.{Call}
use Rattle.volume_audits.proofs.Looked.{Read}
use Rattle.volume_audits.proofs.looking.read_all.Given as goal

-- so many bytes were read so far
abbrev pub invariant-pieces : goal.invariant-pieces
invariant-pieces g l = record {
  read : Call g.P.Stepper.did l.fn.p l.p (λ events. Read l.fn.line l.done l.hasher events);
  within : l.done ≤ l.fn.line.size;
  long : length l.buffer ≡ length l.fn.buffer;
}

abbrev pub decreases-pieces : goal.decreases-pieces
decreases-pieces g l = l.fn.line.size - l.done
