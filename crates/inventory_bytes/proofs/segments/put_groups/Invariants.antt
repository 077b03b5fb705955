use Rattle.std.proofs.Common.{◌≡◌}
use Rattle.inventory_bytes.specs.Segments.{filled, of_groups}
use Rattle.inventory_bytes.proofs.segments.put_groups.Given as goal

abbrev pub invariant-groups : goal.invariant-groups
invariant-groups l = filled (of_groups l.group-iterator) l.volumes.entries ≡ filled (of_groups l.groups.entries) l.fn.volumes.entries
