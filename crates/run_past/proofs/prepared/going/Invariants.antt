use Rattle.std.proofs.Common.{◌≡◌, ◌++◌}
use Rattle.inventory_rows.specs.State.{inv_of}
use Rattle.run_past.specs.Before.{going}
use Rattle.run_past.proofs.prepared.going.Given as goal

abbrev pub invariant-filespaces : goal.invariant-filespaces
invariant-filespaces l = l.kept.items ++ going l.items l.number-iterator (inv_of l.tables) ≡ going l.items (inv_of l.tables).clients.filespaces (inv_of l.tables)
