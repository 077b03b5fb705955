use Rattle.std.proofs.Common.{false, ◌++◌, length}
use Rattle.client_batches.specs.Verdicts.{verdicts, waiting}
use Rattle.client_batches.proofs.Settled.{Settled}
use Rattle.client_batches.proofs.settling.settle.Given as goal

abbrev pub invariant-came : goal.invariant-came
invariant-came l = Settled l.settled.items l.some l.came_left l.sealed_left l.outs_left (l.fn.settled.items ++ verdicts false l.came l.sealed l.outs) (waiting false l.came)

abbrev pub decreases-came : goal.decreases-came
decreases-came l = length l.came_left
