use Rattle.std.proofs.Common.{◌≡◌}
use Rattle.std.specs.List.{list_all}
use Rattle.inventory_rows.specs.State.{inv_of}
use Rattle.inventory_check.specs.Rows.{domain_cites, set_cites}
use Rattle.inventory_check.proofs.policy.domain_cites.Given as goal

abbrev pub invariant-sets : goal.invariant-sets
invariant-sets l = list_all (λ s. set_cites (inv_of l.tables) s.1) l.set-iterator ≡ domain_cites (inv_of l.tables) l.domain
