use Rattle.std.proofs.Common.{◌≤◌, ◌-◌}
use Rattle.client_files.specs.Restoring.{HasFile, Leads}
use Rattle.command_steps.specs.Writing.{counted}
use Rattle.command_steps.proofs.writing.put_counted.Given as goal

-- the file has so many bytes so far
abbrev pub invariant-pieces : goal.invariant-pieces
invariant-pieces g l = record {
  has : Leads (HasFile l.fn.path (counted l.fn.fill 0 l.done) 0) (g.T.Tree.files l.fn.tree) (g.T.Tree.files l.tree);
  rises : g.T.Tree.fault_count l.fn.tree ≤ g.T.Tree.fault_count l.tree;
  within : l.done ≤ l.fn.size;
}

abbrev pub decreases-pieces : goal.decreases-pieces
decreases-pieces g l = l.fn.size - l.done
