use Rattle.std.proofs.Common.{◌≡◌}
use Rattle.std.specs.List.{list_all}
use Rattle.inventory_rows.specs.State.{inv_of}
use Rattle.inventory_check.specs.Rows.{class_cites, set_cites}
use Rattle.inventory_check.proofs.policy.set_cites.Given as goal

abbrev pub invariant-classes : goal.invariant-classes
invariant-classes l = list_all (λ c. class_cites (inv_of l.tables) c.1) l.class-iterator ≡ set_cites (inv_of l.tables) l.set
