use Rattle.std.proofs.Common.{◌≡◌}
use Rattle.version_groups.specs.kinds.Least.{lesser}
use Rattle.object_rows.specs.Changes.{least_in}
use Rattle.object_rows.proofs.held_rows.least_in.Given as goal

abbrev pub invariant-rows : goal.invariant-rows
invariant-rows l = lesser l.found (least_in l.filespace l.object-iterator) ≡ least_in l.filespace l.map.entries
