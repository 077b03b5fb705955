use Rattle.std.proofs.Common.{◌≡◌, is_some}
use Rattle.std.specs.List.{list_all}
use Rattle.inventory_rows.specs.policy_domains.Rows.{row_of}
use Rattle.inventory_rows.specs.State.{inv_of}
use Rattle.inventory_rules.specs.Valid.{nodes_cite}
use Rattle.inventory_check.proofs.clients.nodes_cite.Given as goal

abbrev pub invariant-nodes : goal.invariant-nodes
invariant-nodes l = list_all (λ n. is_some (row_of n.1.domain l.tables.domains)) l.node-iterator ≡ nodes_cite (inv_of l.tables)
