use Rattle.std.proofs.Common.{◌≡◌}
use Rattle.db_losses.specs.Lost.{all_put, lost_in_held}
use Rattle.db_losses.proofs.lost.put_all_held.Given as goal

abbrev pub invariant-held : goal.invariant-held
invariant-held l = all_put (lost_in_held l.losses l.nodes.entries l.filespaces.entries l.row-iterator) l.out.entries ≡ all_put (lost_in_held l.losses l.nodes.entries l.filespaces.entries l.held.entries) l.fn.out.entries
