use Rattle.std.proofs.Common.{◌≡◌}
use Rattle.std.specs.Map.{keys_of}
use Rattle.inventory_rules.specs.Valid.{lie_in}
use Rattle.inventory_check.proofs.numbers.volumes_drawn.Given as goal

abbrev pub invariant-volumes : goal.invariant-volumes
invariant-volumes l = lie_in 4 l.next (keys_of l.number-iterator) ≡ lie_in 4 l.next (keys_of l.volumes.entries)
