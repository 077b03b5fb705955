use Rattle.std.specs.Ordering.{nat_cmp}
use Rattle.db_losses.specs.Losses.{helds_left}
use Rattle.db_losses.proofs.Building.{Building}
use Rattle.db_losses.proofs.left.helds_left.Given as goal

abbrev pub invariant-held : goal.invariant-held
invariant-held l = Building nat_cmp (helds_left l.losses) l.held.entries l.object-iterator l.out.entries
