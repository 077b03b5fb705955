use Rattle.std.proofs.Common.{◌≡◌}
use Rattle.std.specs.List.{list_all}
use Rattle.inventory_rows.specs.State.{inv_of}
use Rattle.inventory_check.specs.Rows.{domain_cites, domains_cite}
use Rattle.inventory_check.proofs.policy.domains_cite.Given as goal

abbrev pub invariant-domains : goal.invariant-domains
invariant-domains l = list_all (λ d. domain_cites (inv_of l.tables) d.1) l.domain-iterator ≡ domains_cite (inv_of l.tables)
