-- How much a database holds.
use Rattle.std.specs.Prelude.{ℕ, ◌+◌, ◌*◌, ◌^◌, List, length}
use Rattle.std.specs.List.{sum_by}
use Rattle.policy_domains.specs.Rows.{DomainRow}
use Rattle.object_rows.specs.version_groups.declared.group.Group.{Group}
use Rattle.object_rows.specs.version_groups.declared.groups.Filespace.{Filespace}
use Rattle.object_rows.specs.version_groups.declared.versions.Version.{Version}
use Rattle.object_rows.specs.Items as object
use Rattle.inventory_rows.specs.declared.backup.Backup.{Backup}
use Rattle.inventory_rows.specs.State.{Inv}

-- how many items the lists of a database may have together
abbrev pub most_items : ℕ
most_items = 15 * 2 ^ 20

abbrev pub items_of_domain : DomainRow → ℕ
items_of_domain d = length d.sets + sum_by (λ s. length s.1.classes) d.sets

abbrev pub items_of_version : Version → ℕ
items_of_version version = object.items_of_version version

abbrev pub items_of_group : Group → ℕ
items_of_group group = object.items_of_group group

abbrev pub items_of_filespace : Filespace → ℕ
items_of_filespace f = object.items_of_filespace f

-- how many items the lists of a database have together: domains, sets and classes; nodes; filespaces, groups, versions, held objects, copies and segments;
-- device classes, pools and volumes; database backups and their delays
abbrev pub count_items : Inv → ℕ
count_items v =
    length v.domains + sum_by (λ d. items_of_domain d.1) v.domains
    + object.items_of_rows v.clients
    + (length v.stores.classes + (length v.stores.pools + length v.stores.volumes))
    + (length v.backups + sum_by (λ b. length b.1.delays) v.backups)
