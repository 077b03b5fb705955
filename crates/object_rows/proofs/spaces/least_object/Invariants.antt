use Rattle.std.proofs.Common.{◌≡◌}
use Rattle.version_groups.specs.kinds.Least.{lesser}
use Rattle.object_rows.specs.Changes.{least_object}
use Rattle.object_rows.proofs.spaces.least_object.Given as goal

abbrev pub invariant-groups : goal.invariant-groups
invariant-groups l = lesser l.found (least_object l.group-iterator) ≡ least_object l.groups.entries
