use Rattle.std.proofs.Common.{◌≡◌}
use Rattle.object_rows.specs.Build.{are_apart}
use Rattle.object_rows.proofs.build.are_apart.Given as goal

abbrev pub invariant-rows : goal.invariant-rows
invariant-rows l = are_apart l.places.entries l.object-iterator ≡ are_apart l.places.entries l.held.entries
