use Rattle.std.proofs.Common.{◌≡◌}
use Rattle.inventory_refusals.specs.Users.{classes_go_to}
use Rattle.inventory_refusals.proofs.rules.classes_go_to.Given as goal

abbrev pub invariant-classes : goal.invariant-classes
invariant-classes l = classes_go_to l.pool l.class-iterator ≡ classes_go_to l.pool l.classes.entries
