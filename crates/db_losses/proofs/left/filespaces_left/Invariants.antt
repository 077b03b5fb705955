use Rattle.std.proofs.Common.{map}
use Rattle.std.specs.Ordering.{nat_cmp}
use Rattle.db_losses.specs.Losses.{filespace_left}
use Rattle.db_losses.proofs.Building.{Building}
use Rattle.db_losses.proofs.left.filespaces_left.Given as goal

abbrev pub invariant-filespaces : goal.invariant-filespaces
invariant-filespaces l = Building nat_cmp (map (filespace_left l.losses)) l.filespaces.entries l.number-iterator l.out.entries
