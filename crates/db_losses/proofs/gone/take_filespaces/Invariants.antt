use Rattle.std.proofs.Common.{◌≡◌}
use Rattle.inventory_rows.specs.object_rows.Filespaces.{versions_of}
use Rattle.db_losses.specs.Losses.{all_gone, lost_of}
use Rattle.db_losses.proofs.gone.take_filespaces.Given as goal

abbrev pub invariant-filespaces : goal.invariant-filespaces
invariant-filespaces l = all_gone (lost_of l.losses (versions_of l.filespace-iterator)) l.day l.pools ≡ all_gone (lost_of l.losses (versions_of l.filespaces.entries)) l.day l.fn.pools
