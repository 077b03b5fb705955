use Rattle.std.proofs.Common.{subst}
use Rattle.std.specs.List.Sorted.{IsStrictlySortedBy}
use Rattle.std.specs.Map.{keys_of}
use Rattle.std.specs.Ordering.{nat_cmp}
use Rattle.object_rows.specs.Places.{PathsAscend}
use Rattle.object_rows.specs.Rows.{Rows}
use Rattle.object_rows.proofs.Full.{paths_from}
use Rattle.object_rows.proofs.objects.Objects.are_ordered.Goals as goal

pub returns-clause-filespaces : goal.returns-clause-filespaces
returns-clause-filespaces c = subst (λ (rows : Rows). IsStrictlySortedBy nat_cmp (keys_of rows.filespaces)) c.self.view_is c.self.invariant.1.by_number

pub returns-clause-paths : goal.returns-clause-paths
returns-clause-paths c = subst (λ (rows : Rows). PathsAscend rows.filespaces) c.self.view_is (paths_from c.self.inside.filespaces.entries c.self.invariant.1.orderly)
