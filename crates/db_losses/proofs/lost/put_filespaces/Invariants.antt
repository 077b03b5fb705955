use Rattle.std.proofs.Common.{◌≡◌}
use Rattle.db_losses.specs.Lost.{all_put, lost_in_filespaces}
use Rattle.db_losses.proofs.lost.put_filespaces.Given as goal

abbrev pub invariant-filespaces : goal.invariant-filespaces
invariant-filespaces l = all_put (lost_in_filespaces l.losses l.nodes.entries l.filespace-iterator) l.out.entries ≡ all_put (lost_in_filespaces l.losses l.nodes.entries l.filespaces.entries) l.fn.out.entries
