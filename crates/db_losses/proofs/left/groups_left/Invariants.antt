use Rattle.std.specs.Cmp.Lexicographic.{slice_cmp}
use Rattle.std.specs.Ordering.{nat_cmp}
use Rattle.db_losses.specs.Losses.{groups_left}
use Rattle.db_losses.proofs.Building.{Building}
use Rattle.db_losses.proofs.left.groups_left.Given as goal

abbrev pub invariant-groups : goal.invariant-groups
invariant-groups l = Building (slice_cmp nat_cmp) (groups_left l.losses) l.groups.entries l.path-iterator l.out.entries
