use Rattle.std.proofs.Common.{◌≡◌}
use Rattle.inventory_rows.specs.policy_domains.Rows.{active_set, row_of}
use Rattle.inventory_sizes.proofs.gone.items_of_active.Given as goal

abbrev pub invariant-sets : goal.invariant-sets
invariant-sets l = row_of active_set l.name-iterator ≡ row_of active_set l.sets.entries
