use Rattle.std.proofs.Common.{◌≡◌}
use Rattle.kinds.specs.Names.{is_same_name}
use Rattle.inventory_rows.specs.pool_tables.Rows.{number_where}
use Rattle.inventory_refusals.proofs.rules.node_in.Given as goal

abbrev pub invariant-nodes : goal.invariant-nodes
invariant-nodes l = number_where (λ n. is_same_name n.domain l.domain) l.number-iterator ≡ number_where (λ n. is_same_name n.domain l.domain) l.tables.objects.nodes
