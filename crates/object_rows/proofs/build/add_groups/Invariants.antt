use Rattle.std.specs.Ordering.{nat_cmp}
use Rattle.object_rows.specs.Places.{listed_in}
use Rattle.object_rows.proofs.Builds.{Progress}
use Rattle.object_rows.proofs.build.add_groups.Given as goal

abbrev pub invariant-groups : goal.invariant-groups
invariant-groups l = Progress nat_cmp l.fn.places.entries l.places.entries (listed_in l.number l.groups.entries) (listed_in l.number l.path-iterator)
