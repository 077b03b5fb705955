use Rattle.std.proofs.Common.{◌≡◌}
use Rattle.std.specs.List.{list_all}
use Rattle.inventory_rows.specs.State.{inv_of}
use Rattle.inventory_rules.specs.Valid.{groups_are_orderly}
use Rattle.inventory_check.specs.Rows.{groups_orderly}
use Rattle.inventory_check.proofs.clients.groups_are_orderly.Given as goal

abbrev pub invariant-filespaces : goal.invariant-filespaces
invariant-filespaces l = list_all (λ f. groups_orderly f.1.groups) l.filespace-iterator ≡ groups_are_orderly (inv_of l.tables)
