use Rattle.std.proofs.Common.{◌≡◌}
use Rattle.std.specs.Map.{keys_of}
use Rattle.inventory_rules.specs.Valid.{lie_in}
use Rattle.inventory_check.proofs.numbers.backups_drawn.Given as goal

abbrev pub invariant-backups : goal.invariant-backups
invariant-backups l = lie_in 4 l.next (keys_of l.number-iterator) ≡ lie_in 4 l.next (keys_of l.backups.entries)
