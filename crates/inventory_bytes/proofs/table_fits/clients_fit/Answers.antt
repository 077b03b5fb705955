use Rattle.std.proofs.Common.{ℕ, ◌+◌, ◌^◌, length}
use Rattle.std.specs.List.{list_all, sum_by}
use Rattle.inventory_rows.specs.version_groups.declared.groups.Filespace.{Filespace}
use Rattle.inventory_rows.specs.Items.{items_of_filespace}
use Rattle.inventory_rules.specs.Valid.{is_orderly}
use Rattle.inventory_bytes.proofs.Lists.{second_below, each_within}
use Rattle.inventory_bytes.proofs.table_fits.clients_fit.Goals as goal

pub table_fits-requires-2-clause-within : goal.table_fits-requires-2-clause-within
table_fits-requires-2-clause-within c =
    let nodes = c.args.objects.now.nodes in
    let filespaces = c.args.objects.now.filespaces in
    let all = sum_by (λ (f : ℕ × Filespace). items_of_filespace f.1) filespaces in
    rw c.filespaces.ensures.value
    (each_within (λ (f : ℕ × Filespace). items_of_filespace f.1) (λ (f : ℕ × Filespace). list_all (λ g. is_orderly g.1) f.1.groups) (2 ^ 32) filespaces c.requires.orderly
    (second_below (length filespaces) all (2 ^ 32) (second_below (length nodes) (length filespaces + all) (2 ^ 32) c.requires.few)))
