use Rattle.std.proofs.Common.{◌≡◌, ◌++◌}
use Rattle.std.specs.Prelude.{map}
use Rattle.inventory_answers.specs.Clients.{node_line}
use Rattle.inventory_answers.proofs.clients.node_lines.Given as goal

abbrev pub invariant-nodes : goal.invariant-nodes
invariant-nodes l = l.lines.items ++ map node_line l.number-iterator ≡ map node_line l.objects.nodes
