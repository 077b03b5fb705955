use Rattle.std.proofs.Common.{◌≡◌}
use Rattle.std.specs.Map.{keys_of}
use Rattle.inventory_rules.specs.Valid.{lie_in}
use Rattle.inventory_check.proofs.numbers.filespaces_drawn.Given as goal

abbrev pub invariant-filespaces : goal.invariant-filespaces
invariant-filespaces l = lie_in 1 l.next (keys_of l.number-iterator) ≡ lie_in 1 l.next (keys_of l.filespaces.entries)
