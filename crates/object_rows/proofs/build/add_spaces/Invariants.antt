use Rattle.std.proofs.Common.{ℕ}
use Rattle.std.specs.Cmp.Lexicographic.{slice_cmp}
use Rattle.std.specs.Ordering.{nat_cmp}
use Rattle.object_rows.specs.Names.{named_of, names_at}
use Rattle.object_rows.proofs.Builds.{Progress}
use Rattle.object_rows.proofs.build.add_spaces.Given as goal

abbrev pub invariant-filespaces : goal.invariant-filespaces
invariant-filespaces l = (m : ℕ) → Progress (slice_cmp nat_cmp) (names_at m l.fn.spaces.entries) (names_at m l.spaces.entries) (named_of m l.filespaces.entries) (named_of m l.number-iterator)
