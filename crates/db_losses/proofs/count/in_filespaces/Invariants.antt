use Rattle.std.proofs.Common.{◌≡◌, ◌+◌, length}
use Rattle.inventory_rows.specs.object_rows.Filespaces.{versions_of}
use Rattle.db_losses.specs.Losses.{copies_in}
use Rattle.db_losses.proofs.count.in_filespaces.Given as goal

abbrev pub invariant-filespaces : goal.invariant-filespaces
invariant-filespaces l = l.count + length (copies_in (versions_of l.filespace-iterator)) ≡ length (copies_in (versions_of l.filespaces.entries))
