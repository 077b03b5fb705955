use Rattle.std.proofs.Common.{◌≡◌, ◌≤◌, ◌-◌, ◌^◌, drop, length}
use Rattle.steps.specs.Calls.{Call}
use Rattle.client_batches.specs.Rounds.{Rounds, SendsSome}
use Rattle.client_batches.proofs.rounds.send_rounds.Given as goal

-- so many rounds were made, and this came of the files that none of them left
abbrev pub invariant-rounds : goal.invariant-rounds
invariant-rounds g l = record {
  sends : Call g.P.Stepper.did l.fn.p l.p (λ events. Rounds (SendsSome l.classes (g.T.Tree.files l.fn.tree) l.filespace) l.rounds l.lines (drop (length l.settled.items) l.lines) l.settled.items (g.T.Tree.fault_count l.fn.tree) (g.T.Tree.fault_count l.tree) events);
  within : l.rounds ≤ 2 ^ 64 - 1;
  kept : g.T.Tree.files l.tree ≡ g.T.Tree.files l.fn.tree;
  rises : g.T.Tree.fault_count l.fn.tree ≤ g.T.Tree.fault_count l.tree;
  long : length l.buffer ≡ length l.fn.buffer;
}

abbrev pub decreases-rounds : goal.decreases-rounds
decreases-rounds g l = 2 ^ 64 - l.rounds
