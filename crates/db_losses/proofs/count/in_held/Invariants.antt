use Rattle.std.proofs.Common.{◌≡◌, ◌+◌, length}
use Rattle.inventory_rows.specs.object_rows.HeldRows.{held_versions}
use Rattle.db_losses.specs.Losses.{copies_in}
use Rattle.db_losses.proofs.count.in_held.Given as goal

abbrev pub invariant-held : goal.invariant-held
invariant-held l = l.count + length (copies_in (held_versions l.row-iterator)) ≡ length (copies_in (held_versions l.held.entries))
