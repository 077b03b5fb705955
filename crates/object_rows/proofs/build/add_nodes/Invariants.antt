use Rattle.std.specs.Cmp.Lexicographic.{slice_cmp}
use Rattle.std.specs.Ordering.{nat_cmp}
use Rattle.object_rows.specs.Names.{named}
use Rattle.object_rows.proofs.Builds.{Progress}
use Rattle.object_rows.proofs.build.add_nodes.Given as goal

abbrev pub invariant-nodes : goal.invariant-nodes
invariant-nodes l = Progress (slice_cmp nat_cmp) l.fn.names.entries l.names.entries (named l.nodes.entries) (named l.number-iterator)
