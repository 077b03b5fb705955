use Rattle.std.proofs.Common.{◌≡◌}
use Rattle.object_rows.specs.Held.{filespaces_hold}
use Rattle.object_rows.proofs.held.filespaces_hold.Given as goal

abbrev pub invariant-filespaces : goal.invariant-filespaces
invariant-filespaces l = filespaces_hold l.pool l.filespace-iterator ≡ filespaces_hold l.pool l.filespaces.entries
