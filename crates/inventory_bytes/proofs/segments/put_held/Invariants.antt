use Rattle.std.proofs.Common.{◌≡◌}
use Rattle.inventory_rows.specs.object_rows.HeldRows.{held_versions}
use Rattle.inventory_bytes.specs.Segments.{filled, of_versions}
use Rattle.inventory_bytes.proofs.segments.put_held.Given as goal

abbrev pub invariant-held : goal.invariant-held
invariant-held l = filled (of_versions (held_versions l.row-iterator)) l.volumes.entries ≡ filled (of_versions (held_versions l.held.entries)) l.fn.volumes.entries
