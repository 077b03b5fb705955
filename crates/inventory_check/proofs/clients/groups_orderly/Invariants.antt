use Rattle.std.proofs.Common.{◌≡◌}
use Rattle.inventory_check.specs.Rows.{groups_orderly}
use Rattle.inventory_check.proofs.clients.groups_orderly.Given as goal

abbrev pub invariant-groups : goal.invariant-groups
invariant-groups l = groups_orderly l.group-iterator ≡ groups_orderly l.groups.entries
