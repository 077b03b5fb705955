use Rattle.std.proofs.Common.{◌≡◌}
use Rattle.inventory_refusals.specs.Users.{domains_go_to}
use Rattle.inventory_refusals.proofs.rules.domains_go_to.Given as goal

abbrev pub invariant-domains : goal.invariant-domains
invariant-domains l = domains_go_to l.pool l.domain-iterator ≡ domains_go_to l.pool l.domains.entries
