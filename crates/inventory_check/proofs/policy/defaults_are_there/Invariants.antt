use Rattle.std.proofs.Common.{◌≡◌}
use Rattle.std.specs.List.{list_all}
use Rattle.inventory_rows.specs.State.{inv_of}
use Rattle.inventory_rules.specs.Valid.{defaults_are_there}
use Rattle.inventory_check.specs.Rows.{domain_has_defaults}
use Rattle.inventory_check.proofs.policy.defaults_are_there.Given as goal

abbrev pub invariant-domains : goal.invariant-domains
invariant-domains l = list_all (λ d. domain_has_defaults d.1) l.domain-iterator ≡ defaults_are_there (inv_of l.tables)
