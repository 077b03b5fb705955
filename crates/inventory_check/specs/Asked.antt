-- What is asked of each object that is kept, and how all are walked.
use Rattle.std.specs.Prelude.{ℕ, Bool, true, nat_lt, nat_le, ◌&&◌, is_some, List}
use Rattle.std.specs.List.{list_all}
use Rattle.std.specs.Option.{option_map_or}
use Rattle.inventory_rows.specs.version_groups.declared.copies.CopyRow.{CopyRow}
use Rattle.inventory_rows.specs.version_groups.declared.group.Group.{Group}
use Rattle.inventory_rows.specs.version_groups.declared.groups.Filespace.{Filespace}
use Rattle.inventory_rows.specs.version_groups.declared.versions.Version.{Version}
use Rattle.inventory_rows.specs.object_rows.declared.held_object.HeldRow.{HeldRow}
use Rattle.inventory_rows.specs.pool_tables.Rows.{row_at}
use Rattle.inventory_rows.specs.Search.{pool}
use Rattle.inventory_rows.specs.State.{Inv}
use Rattle.inventory_rules.specs.Valid.{is_copied, is_of_pool}
use Rattle.inventory_check.specs.declared.versions.Asked.{Asked}
use Rattle.inventory_check.specs.declared.versions.Asked.TheVariants.{Cited, Drawn, Past, Copied, ByToday}

-- the copy's pool is there, and each of its segments lies on a volume of that pool
abbrev pub copy_cites : Inv → CopyRow → Bool
copy_cites v copy = is_some (pool copy.pool v) && list_all (λ s. is_of_pool copy.pool (row_at s.file v.stores.volumes)) copy.segments

-- the version's days don't lie behind today
abbrev pub is_by_today : ℕ → Version → Bool
is_by_today today version = nat_le version.stored today && option_map_or (λ day. nat_le day today) version.since true

-- the version has what is asked
abbrev pub holds : Asked → Inv → Version → Bool
holds Cited v version = list_all (copy_cites v) version.copies
holds Drawn v version = nat_le 1 version.object && nat_lt version.object v.next_object
holds Past v version = list_all (λ c. nat_le c.placed v.number) version.copies
holds Copied v version = is_copied v version
holds ByToday v version = is_by_today v.today version

-- each version of the groups, and each of the filespaces, passes
abbrev pub all_in_groups : (Version → Bool) → List (List ℕ × Group) → Bool
all_in_groups test groups = list_all (λ g. list_all test g.1.versions) groups

abbrev pub all_in_filespaces : (Version → Bool) → List (ℕ × Filespace) → Bool
all_in_filespaces test filespaces = list_all (λ f. all_in_groups test f.1.groups) filespaces

-- each held object passes
abbrev pub all_in_held : (Version → Bool) → List (ℕ × HeldRow) → Bool
all_in_held test held = list_all (λ h. test h.1.held.version) held
