use Rattle.std.proofs.Common.{◌≡◌, ◌≤◌, length, take}
use Rattle.steps.specs.Calls.{Call}
use Rattle.client_batches.specs.Sends.{NonePauses, SendsEach, tickets_in}
use Rattle.client_batches.proofs.sending.send_each.Given as goal

-- those so far were sent, and none of them paused
abbrev pub invariant-lines : goal.invariant-lines
invariant-lines g l = record {
  sends : Call g.P.Stepper.did l.fn.p l.p (λ events. SendsEach l.classes (g.T.Tree.files l.fn.tree) (take l.line-index l.lines) l.came.items (g.T.Tree.fault_count l.fn.tree) (g.T.Tree.fault_count l.tree) events);
  free : NonePauses 0 l.came.items;
  held : l.held.items ≡ tickets_in l.came.items;
  most : length l.held.items ≤ 32;
  kept : g.T.Tree.files l.tree ≡ g.T.Tree.files l.fn.tree;
  rises : g.T.Tree.fault_count l.fn.tree ≤ g.T.Tree.fault_count l.tree;
  long : length l.buffer ≡ length l.fn.buffer;
}
