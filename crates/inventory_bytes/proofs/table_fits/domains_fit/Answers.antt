use Rattle.std.proofs.Common.{ℕ, ◌^◌, List, length}
use Rattle.std.specs.List.{sum_by}
use Rattle.inventory_rows.specs.policy_domains.Rows.{DomainRow}
use Rattle.inventory_rows.specs.Items.{items_of_domain}
use Rattle.inventory_bytes.proofs.Lists.{second_below, each_below}
use Rattle.inventory_bytes.proofs.table_fits.domains_fit.Goals as goal

pub table_fits-requires-clause-within : goal.table_fits-requires-clause-within
table_fits-requires-clause-within c =
    let rows = c.args.rows.now in
    rw c.rows.ensures (each_below (λ (d : List ℕ × DomainRow). items_of_domain d.1) (2 ^ 32) rows (second_below (length rows) (sum_by (λ (d : List ℕ × DomainRow). items_of_domain d.1) rows) (2 ^ 32) c.requires))
