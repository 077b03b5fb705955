use Rattle.std.proofs.Common.{◌≡◌}
use Rattle.std.specs.Map.{keys_of}
use Rattle.inventory_rules.specs.Valid.{lie_in}
use Rattle.inventory_check.proofs.numbers.nodes_drawn.Given as goal

abbrev pub invariant-nodes : goal.invariant-nodes
invariant-nodes l = lie_in 1 l.next (keys_of l.number-iterator) ≡ lie_in 1 l.next (keys_of l.nodes.entries)
