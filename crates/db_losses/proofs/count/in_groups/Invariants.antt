use Rattle.std.proofs.Common.{◌≡◌, ◌+◌, length}
use Rattle.inventory_rows.specs.object_rows.Filespaces.{versions_in}
use Rattle.db_losses.specs.Losses.{copies_in}
use Rattle.db_losses.proofs.count.in_groups.Given as goal

abbrev pub invariant-groups : goal.invariant-groups
invariant-groups l = l.count + length (copies_in (versions_in l.group-iterator)) ≡ length (copies_in (versions_in l.groups.entries))
