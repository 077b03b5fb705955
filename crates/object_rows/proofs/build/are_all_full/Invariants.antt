use Rattle.std.proofs.Common.{◌≡◌}
use Rattle.object_rows.specs.Places.{AreAllOrderly, are_all_full}
use Rattle.object_rows.proofs.build.are_all_full.Given as goal

abbrev pub invariant-filespaces : goal.invariant-filespaces
invariant-filespaces l = (are_all_full l.filespace-iterator ≡ are_all_full l.filespaces.entries) × (AreAllOrderly l.filespace-iterator → AreAllOrderly l.filespaces.entries)
