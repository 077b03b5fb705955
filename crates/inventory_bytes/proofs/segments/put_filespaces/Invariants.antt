use Rattle.std.proofs.Common.{◌≡◌}
use Rattle.inventory_bytes.specs.Segments.{filled, of_filespaces}
use Rattle.inventory_bytes.proofs.segments.put_filespaces.Given as goal

abbrev pub invariant-filespaces : goal.invariant-filespaces
invariant-filespaces l = filled (of_filespaces l.filespace-iterator) l.volumes.entries ≡ filled (of_filespaces l.filespaces.entries) l.fn.volumes.entries
