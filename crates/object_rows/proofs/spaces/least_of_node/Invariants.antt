use Rattle.std.proofs.Common.{◌≡◌}
use Rattle.object_rows.specs.Names.{filespace_of}
use Rattle.object_rows.proofs.spaces.least_of_node.Given as goal

abbrev pub invariant-filespaces : goal.invariant-filespaces
invariant-filespaces l = filespace_of l.node l.number-iterator ≡ filespace_of l.node l.filespaces.entries
