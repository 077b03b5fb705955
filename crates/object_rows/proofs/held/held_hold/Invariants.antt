use Rattle.std.proofs.Common.{◌≡◌}
use Rattle.object_rows.specs.Held.{held_hold}
use Rattle.object_rows.proofs.held.held_hold.Given as goal

abbrev pub invariant-rows : goal.invariant-rows
invariant-rows l = held_hold l.pool l.row-iterator ≡ held_hold l.pool l.held.entries
