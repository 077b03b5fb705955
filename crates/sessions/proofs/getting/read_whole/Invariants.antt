use Rattle.std.proofs.Common.{◌≡◌, ◌≤◌, ◌-◌, length}
use Rattle.steps.specs.Calls.{Call}
use Rattle.client_files.specs.Restoring.{ReadOn, read_in}
use Rattle.sessions.proofs.getting.read_whole.Given as goal

-- so many bytes were read so far
abbrev pub invariant-pieces : goal.invariant-pieces
invariant-pieces g l = record {
  read : Call g.P.Stepper.did l.fn.p l.p (λ events. ReadOn l.stored 0 events × (read_in events ≡ l.bytes.items));
  count : length l.bytes.items ≡ l.done;
  within : l.done ≤ l.stored.size;
  long : length l.buffer ≡ length l.fn.buffer;
}

abbrev pub decreases-pieces : goal.decreases-pieces
decreases-pieces g l = l.stored.size - l.done
