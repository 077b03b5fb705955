use Rattle.std.proofs.Common.{◌≡◌, ◌≤◌, ◌-◌, length}
use Rattle.steps.specs.Calls.{Call}
use Rattle.client_files.proofs.Giving.{Copied}
use Rattle.client_files.proofs.restoring.copy_bytes.Given as goal

-- so many bytes were read and put behind one another so far
abbrev pub invariant-pieces : goal.invariant-pieces
invariant-pieces g l = record {
  copied : Call g.P.Stepper.did l.fn.p l.p (λ events. Copied l.fn.stored l.fn.path (g.T.Tree.files l.fn.tree) (g.T.Tree.files l.tree) l.done l.hasher events);
  within : l.done ≤ l.fn.stored.size;
  rises : g.T.Tree.fault_count l.fn.tree ≤ g.T.Tree.fault_count l.tree;
  long : length l.buffer ≡ length l.fn.buffer;
}

abbrev pub decreases-pieces : goal.decreases-pieces
decreases-pieces g l = l.fn.stored.size - l.done
