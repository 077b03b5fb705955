use Rattle.std.proofs.Common.{drop}
use Rattle.std.specs.Ordering.{nat_cmp}
use Rattle.object_rows.specs.Places.{listed_at}
use Rattle.object_rows.proofs.Builds.{Progress}
use Rattle.object_rows.proofs.build.add_versions.Given as goal

abbrev pub invariant-versions : goal.invariant-versions
invariant-versions l = Progress nat_cmp l.fn.places.entries l.places.entries (listed_at l.number l.path l.versions) (listed_at l.number l.path (drop l.version-index l.versions))
