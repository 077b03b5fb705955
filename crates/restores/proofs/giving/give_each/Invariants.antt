use Rattle.std.proofs.Common.{◌≡◌, ◌≤◌, length, take}
use Rattle.steps.specs.Calls.{Call}
use Rattle.restores.specs.Given.{Gives}
use Rattle.restores.proofs.giving.give_each.Given as goal

-- those so far were restored, or not and why
abbrev pub invariant-lines : goal.invariant-lines
invariant-lines g l = record {
  gives : Call g.P.Stepper.did l.fn.p l.p (λ events. Gives (take l.line-index l.lines) l.gave.items (g.T.Tree.fault_count l.fn.tree) (g.T.Tree.fault_count l.tree) (g.T.Tree.files l.fn.tree) (g.T.Tree.files l.tree) events);
  rises : g.T.Tree.fault_count l.fn.tree ≤ g.T.Tree.fault_count l.tree;
  long : length l.buffer ≡ length l.fn.buffer;
}
