use Rattle.std.proofs.Common.{◌≡◌}
use Rattle.db_losses.specs.Lost.{all_put, lost_in_groups}
use Rattle.db_losses.proofs.lost.put_groups.Given as goal

abbrev pub invariant-groups : goal.invariant-groups
invariant-groups l = all_put (lost_in_groups l.losses l.node l.filespace l.path-iterator) l.out.entries ≡ all_put (lost_in_groups l.losses l.node l.filespace l.groups.entries) l.fn.out.entries
