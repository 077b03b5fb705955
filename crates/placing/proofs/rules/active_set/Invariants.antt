use Rattle.std.proofs.Common.{◌≡◌}
use Rattle.inventory_rows.specs.policy_domains.Rows.{active_set, row_of}
use Rattle.placing.proofs.rules.active_set.Given as goal

abbrev pub invariant-sets : goal.invariant-sets
invariant-sets l = row_of active_set l.name-iterator ≡ row_of active_set l.sets.entries
