use Rattle.std.proofs.Common.{◌≡◌}
use Rattle.inventory_refusals.specs.Users.{sets_go_to}
use Rattle.inventory_refusals.proofs.rules.sets_go_to.Given as goal

abbrev pub invariant-sets : goal.invariant-sets
invariant-sets l = sets_go_to l.pool l.set-iterator ≡ sets_go_to l.pool l.sets.entries
