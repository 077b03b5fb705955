use Rattle.std.proofs.Common.{◌≡◌}
use Rattle.db_losses.specs.Losses.{all_gone, lost_of_groups}
use Rattle.db_losses.proofs.gone.take_groups.Given as goal

abbrev pub invariant-groups : goal.invariant-groups
invariant-groups l = all_gone (lost_of_groups l.losses l.group-iterator) l.day l.pools ≡ all_gone (lost_of_groups l.losses l.groups.entries) l.day l.fn.pools
