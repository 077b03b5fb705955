use Rattle.std.proofs.Common.{◌≡◌}
use Rattle.object_rows.specs.Places.{are_full}
use Rattle.object_rows.proofs.build.are_full.Given as goal

abbrev pub invariant-groups : goal.invariant-groups
invariant-groups l = are_full l.group-iterator ≡ are_full l.groups.entries
