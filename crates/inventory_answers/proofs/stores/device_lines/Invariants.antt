use Rattle.std.proofs.Common.{◌≡◌, ◌++◌}
use Rattle.std.specs.Prelude.{map}
use Rattle.inventory_answers.specs.Stores.{device_line}
use Rattle.inventory_answers.proofs.stores.device_lines.Given as goal

abbrev pub invariant-classes : goal.invariant-classes
invariant-classes l = l.lines.items ++ map device_line l.name-iterator ≡ map device_line l.pools.classes
