use Rattle.std.proofs.Common.{◌≡◌, ◌≤◌, ◌-◌, ◌^◌, length}
use Rattle.client_files.specs.Reading.{file_of}
use Rattle.steps.specs.Calls.{Call}
use Rattle.sessions.specs.Putting.{SendsOnce}
use Rattle.sessions.specs.Waiting.{Waited}
use Rattle.sessions.proofs.sending.send.Given as goal

-- so many tries found the room held
abbrev pub invariant-tries : goal.invariant-tries
invariant-tries g l = record {
  waited : Call g.P.Stepper.did l.fn.p l.p (Waited (SendsOnce (file_of (g.T.Tree.files l.fn.tree) l.file.path) l.fn.pool l.file.size) l.tries);
  within : l.tries ≤ 2 ^ 64 - 1;
  kept : g.T.Tree.files l.tree ≡ g.T.Tree.files l.fn.tree;
  rises : g.T.Tree.fault_count l.fn.tree ≤ g.T.Tree.fault_count l.tree;
  long : length l.buffer ≡ length l.fn.buffer;
}

abbrev pub decreases-tries : goal.decreases-tries
decreases-tries g l = 2 ^ 64 - l.tries
