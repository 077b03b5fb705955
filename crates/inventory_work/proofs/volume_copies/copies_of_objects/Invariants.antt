use Rattle.std.proofs.Common.{◌≡◌, ◌++◌}
use Rattle.std.specs.List.{flat_map}
use Rattle.inventory_work.specs.OnVolume.{copies_of_object}
use Rattle.inventory_work.proofs.volume_copies.copies_of_objects.Given as goal

abbrev pub invariant-numbers : goal.invariant-numbers
invariant-numbers l = l.lines.items ++ flat_map (copies_of_object l.here l.objects) l.object-iterator ≡ flat_map (copies_of_object l.here l.objects) l.numbers.keys
