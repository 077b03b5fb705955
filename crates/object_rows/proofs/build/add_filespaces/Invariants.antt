use Rattle.std.specs.Ordering.{nat_cmp}
use Rattle.object_rows.specs.Places.{listed}
use Rattle.object_rows.proofs.Builds.{Progress}
use Rattle.object_rows.proofs.build.add_filespaces.Given as goal

abbrev pub invariant-filespaces : goal.invariant-filespaces
invariant-filespaces l = Progress nat_cmp l.fn.places.entries l.places.entries (listed l.filespaces.entries) (listed l.number-iterator)
