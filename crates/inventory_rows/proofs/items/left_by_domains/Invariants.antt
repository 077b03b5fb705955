use Rattle.std.proofs.Common.{◌≡◌}
use Rattle.std.specs.List.{sum_by}
use Rattle.inventory_rows.specs.Items.{items_of_domain}
use Rattle.object_rows.specs.Items.{left}
use Rattle.inventory_rows.proofs.items.left_by_domains.Given as goal

abbrev pub invariant-domains : goal.invariant-domains
invariant-domains l = left (sum_by (λ d. items_of_domain d.1) l.domain-iterator) l.rest ≡ left (sum_by (λ d. items_of_domain d.1) l.domains.entries) l.fn.room
