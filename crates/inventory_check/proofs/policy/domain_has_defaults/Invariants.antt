use Rattle.std.proofs.Common.{◌≡◌}
use Rattle.std.specs.List.{list_all}
use Rattle.inventory_rules.specs.Valid.{is_default_there}
use Rattle.inventory_check.specs.Rows.{domain_has_defaults}
use Rattle.inventory_check.proofs.policy.domain_has_defaults.Given as goal

abbrev pub invariant-sets : goal.invariant-sets
invariant-sets l = list_all (λ s. is_default_there s.0 s.1) l.name-iterator ≡ domain_has_defaults l.domain
