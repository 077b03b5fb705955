use Rattle.std.proofs.Common.{ℕ, ◌^◌, List, length}
use Rattle.std.specs.List.{sum_by}
use Rattle.inventory_rows.specs.version_groups.declared.group.Group.{Group}
use Rattle.inventory_rows.specs.Items.{items_of_group}
use Rattle.inventory_rules.specs.Valid.{is_orderly}
use Rattle.inventory_bytes.proofs.Lists.{second_below, each_within}
use Rattle.inventory_bytes.proofs.client_fits.FilespaceRowSecondFittingRowFilespace.fits.Goals as goal

pub table_fits-requires-clause-within : goal.table_fits-requires-clause-within
table_fits-requires-clause-within c =
    let groups = c.args.value.now.groups in
    rw c.as_map.ensures.value
    (each_within (λ (g : List ℕ × Group). items_of_group g.1) (λ (g : List ℕ × Group). is_orderly g.1) (2 ^ 32) groups c.requires.1
    (second_below (length groups) (sum_by (λ (g : List ℕ × Group). items_of_group g.1) groups) (2 ^ 32) c.requires.0))
