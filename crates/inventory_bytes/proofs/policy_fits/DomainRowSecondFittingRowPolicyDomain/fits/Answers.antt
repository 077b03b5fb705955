use Rattle.std.proofs.Common.{ℕ, ◌^◌, List, length}
use Rattle.std.specs.List.{sum_by}
use Rattle.inventory_rows.specs.policy_domains.Rows.{SetRow}
use Rattle.inventory_bytes.proofs.Lists.{second_below, each_below}
use Rattle.inventory_bytes.proofs.policy_fits.DomainRowSecondFittingRowPolicyDomain.fits.Goals as goal

pub table_fits-requires-clause-within : goal.table_fits-requires-clause-within
table_fits-requires-clause-within c =
    let sets = c.args.value.now.sets in
    rw c.sets.ensures (each_below (λ (s : List ℕ × SetRow). length s.1.classes) (2 ^ 32) sets (second_below (length sets) (sum_by (λ (s : List ℕ × SetRow). length s.1.classes) sets) (2 ^ 32) c.requires))
