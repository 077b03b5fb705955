use Rattle.std.proofs.Common.{◌≡◌}
use Rattle.object_rows.specs.HeldRows.{are_held_rows}
use Rattle.object_rows.proofs.held_rows.are_held_rows.Given as goal

abbrev pub invariant-rows : goal.invariant-rows
invariant-rows l = are_held_rows l.object-iterator ≡ are_held_rows l.map.entries
