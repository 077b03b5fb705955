use Rattle.std.proofs.Common.{◌≡◌, ◌≤◌, ◌-◌, length}
use Rattle.steps.specs.Calls.{Call}
use Rattle.client_files.specs.Reading.{file_of}
use Rattle.client_files.proofs.Filling.{Sent}
use Rattle.client_files.proofs.sending.copy_bytes.Given as goal

-- so many bytes were written so far
abbrev pub invariant-pieces : goal.invariant-pieces
invariant-pieces g l = record {
  sent : Call g.P.Stepper.did l.fn.p l.p (λ events. Sent (file_of (g.T.Tree.files l.fn.tree) l.path) l.fn.ticket l.done l.hasher events);
  within : l.done ≤ l.fn.size;
  kept : g.T.Tree.files l.tree ≡ g.T.Tree.files l.fn.tree;
  rises : g.T.Tree.fault_count l.fn.tree ≤ g.T.Tree.fault_count l.tree;
  long : length l.buffer ≡ length l.fn.buffer;
}

abbrev pub decreases-pieces : goal.decreases-pieces
decreases-pieces g l = l.fn.size - l.done
