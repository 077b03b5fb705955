-- Under which conditions a database is one: what cites something finds it, numbers and names are given once, and what the rows say of
-- one another agrees.
use Rattle.std.specs.Prelude.{ℕ, ◌+◌, ◌-◌, ◌*◌, ◌/◌, ◌%◌, ◌^◌, Bool, true, false, not, nat_lt, nat_le, ◌==◌, ◌&&◌, ◌||◌, is_some, is_none, if◌then◌else◌, List, [], ◌∷◌, ◌++◌, map, filter, length, codes, Option, Some, None}
use Rattle.std.specs.List.{list_all, sum_by}
use Rattle.std.specs.Map.{keys_of, lookup}
use Rattle.std.specs.Option.{option_map_or}
use Rattle.kinds.specs.declared.pool.Access.{Access}
use Rattle.kinds.specs.declared.pool.Access.TheVariants.{ReadWrite, ReadOnly, Unavailable, Offsite, Destroyed}
use Rattle.kinds.specs.declared.segment.Segment.{Segment}
use Rattle.inventory_rows.specs.policy_domains.Rows.{SetRow, active_set, row_of}
use Rattle.inventory_rows.specs.version_groups.declared.copies.CopyRow.{CopyRow}
use Rattle.inventory_rows.specs.version_groups.declared.group.Group.{Group}
use Rattle.inventory_rows.specs.version_groups.declared.versions.Version.{Version}
use Rattle.inventory_rows.specs.version_groups.Entries.{all_later, is_nil}
use Rattle.inventory_rows.specs.version_groups.Copies.{are_by_pool}
use Rattle.inventory_rows.specs.version_groups.Versions.{are_distinct, is_empty}
use Rattle.inventory_rows.specs.volume_rows.declared.volume.Volume.{Volume}
use Rattle.inventory_rows.specs.object_rows.Filespaces.{at_number, filespace_at}
use Rattle.inventory_rows.specs.object_rows.HeldRows.{is_held_row}
use Rattle.inventory_rows.specs.pool_rows.PoolRows.{is_sequential, pool_capacity}
use Rattle.inventory_rows.specs.pool_rows.Hierarchy.{comes_to}
use Rattle.kinds.specs.Names.{is_same_name}
use Rattle.inventory_rows.specs.pool_tables.Rows.{named, row_at}
use Rattle.inventory_rows.specs.pool_tables.Scratch.{scratch_name, is_scratch_name}
use Rattle.inventory_rows.specs.Items.{count_items, most_items}
use Rattle.inventory_rows.specs.Search.{versions, copies, pool, destinations, is_primary_kind, segments_on}
use Rattle.inventory_rows.specs.State.{Inv}

-- no number stands twice
abbrev pub are_apart : List ℕ → Bool
are_apart numbers = all_later (λ a b. not (a == b)) numbers

-- no name stands twice
abbrev pub names_apart : List (List ℕ) → Bool
names_apart names = all_later (λ a b. not (is_same_name a b)) names

-- ---- what is cited is there

abbrev pub nodes_cite : Inv → Bool
nodes_cite v = list_all (λ n. is_some (row_of n.1.domain v.domains)) v.clients.nodes

abbrev pub filespaces_cite : Inv → Bool
filespaces_cite v = list_all (λ f. is_some (lookup (at_number f.1.node) v.clients.nodes)) v.clients.filespaces

-- a held object stands under its number, has no day from which it is inactive, and lies in a filespace that is there
abbrev pub held_cite : Inv → Bool
held_cite v = list_all (λ h. is_held_row h && is_some (filespace_at h.1.filespace v.clients.filespaces)) v.clients.held

abbrev pub rules_cite : Inv → Bool
rules_cite v = list_all (λ destination. is_some (pool destination v)) (destinations v)

abbrev pub next_is_there : Option ℕ → Inv → Bool
next_is_there None v = true
next_is_there (Some next) v = is_some (pool next v)

abbrev pub pools_cite : Inv → Bool
pools_cite v = list_all (λ p. is_some (named p.1.class v.stores.classes) && next_is_there p.1.settings.next v) v.stores.pools

abbrev pub volumes_cite : Inv → Bool
volumes_cite v = list_all (λ f. is_some (pool f.1.pool v)) v.stores.volumes

-- each copy lies in a pool that is there, each of its segments on a volume of that pool
abbrev pub is_of_pool : ℕ → Option Volume → Bool
is_of_pool pool None = false
is_of_pool pool (Some volume) = volume.pool == pool

abbrev pub copies_cite : Inv → Bool
copies_cite v = list_all (λ e. is_some (pool e.1.pool v) && list_all (λ s. is_of_pool e.1.pool (row_at s.file v.stores.volumes)) e.1.segments) (copies v)

-- ---- numbers

-- each is at least this one and below that one
abbrev pub lie_in : ℕ → ℕ → List ℕ → Bool
lie_in least bound numbers = list_all (λ n. nat_le least n && nat_lt n bound) numbers

-- rows have numbers from the first one on and below the next one
abbrev pub are_drawn : Inv → Bool
are_drawn v =
    lie_in 1 v.next_node (keys_of v.clients.nodes)
    && (lie_in 1 v.next_filespace (keys_of v.clients.filespaces)
    && (lie_in 1 v.next_pool (keys_of v.stores.pools)
    && (lie_in 4 v.next_file (keys_of v.stores.volumes ++ keys_of v.backups)
    && lie_in 1 v.next_object (map (λ version. version.object) (versions v)))))

-- the next numbers are from the first one on and below their bounds
abbrev pub are_bounded : Inv → Bool
are_bounded v =
    lie_in 1 (2 ^ 32 - 1) (v.next_node ∷ v.next_filespace ∷ [])
    && (lie_in 1 (2 ^ 16) (v.next_pool ∷ [])
    && (lie_in 4 (2 ^ 32 - 1) (v.next_file ∷ [])
    && (lie_in 1 (2 ^ 62) (v.next_object ∷ [])
    && (nat_lt v.number (2 ^ 62) && nat_lt v.today (2 ^ 31)))))

-- objects, files and backups have numbers of their own
abbrev pub are_numbered : Inv → Bool
are_numbered v =
    are_distinct (versions v)
    && (are_apart (keys_of v.stores.volumes ++ keys_of v.backups)
    && are_apart (map (λ b. b.1.number) v.backups))

-- nothing was placed, and no backup begun, by a transaction to come
abbrev pub are_past : Inv → Bool
are_past v = list_all (λ b. nat_le b.1.number v.number) v.backups && list_all (λ e. nat_le e.1.placed v.number) (copies v)

-- ---- names

-- the names of the filespaces of one node are their own
abbrev pub filespaces_apart : Inv → Bool
filespaces_apart v = all_later (λ f g. not (f.1.node == g.1.node) || not (is_same_name f.1.name g.1.name)) v.clients.filespaces

-- a scratch volume has the name that its file number gives, and no other volume has such a name
abbrev pub is_named_soundly : ℕ × Volume → Bool
is_named_soundly f = if f.1.scratch then is_same_name f.1.name (scratch_name f.0) else not (is_scratch_name f.1.name)

abbrev pub are_named : Inv → Bool
are_named v =
    names_apart (map (λ n. n.1.name) v.clients.nodes)
    && (names_apart (map (λ p. p.1.name) v.stores.pools)
    && (names_apart (map (λ f. f.1.name) v.stores.volumes)
    && (filespaces_apart v && list_all is_named_soundly v.stores.volumes)))

-- ---- policy

-- a set's default class is one of its classes; the set that binds clients has one
abbrev pub is_default_there : List ℕ → SetRow → Bool
is_default_there name set = option_map_or (λ class. is_some (row_of class set.classes)) set.default_class (not (is_same_name name active_set))

abbrev pub defaults_are_there : Inv → Bool
defaults_are_there v = list_all (λ d. list_all (λ s. is_default_there s.0 s.1) d.1.sets) v.domains

-- ---- versions and copies

-- a path's versions: at least one; only the newest may be active; none became inactive before one that is older
abbrev pub are_all_inactive : List Version → Bool
are_all_inactive older = list_all (λ w. is_some w.since) older

abbrev pub is_orderly : Group → Bool
is_orderly group = not (is_empty group.versions) && (only_newest group.versions && all_later (λ a b. option_map_or (λ y. option_map_or (λ x. nat_le y x) a.since true) b.since true) group.versions)
  where
    only_newest : List Version → Bool
    only_newest [] = true
    only_newest (newest ∷ older) = are_all_inactive older

abbrev pub groups_are_orderly : Inv → Bool
groups_are_orderly v = list_all (λ f. list_all (λ g. is_orderly g.1) f.1.groups) v.clients.filespaces

-- the copies of a version that lie in primary pools
abbrev pub primary_copies : Inv → Version → List CopyRow
primary_copies v version = filter (λ c. option_map_or (λ p. is_primary_kind p.kind) (pool c.pool v) false) version.copies

-- an object has a copy, at most one of them in a primary pool, and at most one in each pool; each has the object's bytes
abbrev pub is_copied : Inv → Version → Bool
is_copied v version =
    not (is_nil version.copies)
    && (nat_le (length (primary_copies v version)) 1
    && (are_by_pool version.copies
    && list_all (λ c. sum_by (λ s. s.len) c.segments == version.size) version.copies))

abbrev pub versions_are_copied : Inv → Bool
versions_are_copied v = list_all (is_copied v) (versions v)

-- ---- volumes

-- where a segment's frame begins and ends: in bytes, or on a volume of random access in blocks of 4,096
abbrev pub low_of : Bool → Segment → ℕ
low_of sequential s = if sequential then s.offset else s.offset / 4096

abbrev pub high_of : Bool → Segment → ℕ
high_of sequential s = if sequential then s.offset + 32 + s.len else (s.offset + 32 + s.len + 4095) / 4096

-- no two segments on a volume overlap
abbrev pub are_disjoint : Bool → List (ℕ × Segment) → Bool
are_disjoint sequential segments = all_later (λ a b. nat_le (high_of sequential a.1) (low_of sequential b.1) || nat_le (high_of sequential b.1) (low_of sequential a.1)) segments

-- a segment ends within the volume, on a sequential one at or below the end of what was written; on one of random access it begins with a block
abbrev pub is_placed : Bool → Volume → Segment → Bool
is_placed sequential volume s =
    nat_le (s.offset + 32 + s.len) (if sequential then volume.end else volume.capacity) && (sequential || s.offset % 4096 == 0)

-- the day of emptying is there exactly for a sequential volume on which something was written and no copy lies
abbrev pub is_emptied_rightly : Bool → Volume → List (ℕ × Segment) → Bool
is_emptied_rightly sequential volume segments =
    if sequential && (not (volume.end == 0) && is_nil segments) then is_some volume.emptied else is_none volume.emptied

-- how many bytes a volume of random access may have: 1 to 65,536 MiB
abbrev pub is_format_size : ℕ → Bool
is_format_size capacity = capacity % 2 ^ 20 == 0 && (nat_le (2 ^ 20) capacity && nat_le capacity (65536 * 2 ^ 20))

-- A sequential volume has the capacity of its class, and what was written lies within it. One of random access is formatted in MiB, has no
-- place where the next frame is written, and is no scratch volume.
abbrev pub is_sized : Bool → Inv → Volume → Bool
is_sized true v volume = option_map_or (λ capacity. volume.capacity == capacity) (pool_capacity volume.pool v.stores) false && nat_le volume.end volume.capacity
is_sized false v volume = is_format_size volume.capacity && (volume.end == 0 && not volume.scratch)

-- OFFSITE is of volumes of copy pools, DESTROYED of volumes of primary ones
abbrev pub may_have : Access → Bool → Bool
may_have ReadWrite primary = true
may_have ReadOnly primary = true
may_have Unavailable primary = true
may_have Offsite primary = not primary
may_have Destroyed primary = primary

abbrev pub is_volume : Inv → ℕ × Volume → Bool
is_volume v f =
    is_sized (is_sequential f.1.pool v.stores) v f.1
    && (may_have f.1.access (option_map_or (λ p. is_primary_kind p.kind) (pool f.1.pool v) false)
    && (are_disjoint (is_sequential f.1.pool v.stores) (segments_on f.0 v)
    && (list_all (λ e. is_placed (is_sequential f.1.pool v.stores) f.1 e.1) (segments_on f.0 v)
    && is_emptied_rightly (is_sequential f.1.pool v.stores) f.1 (segments_on f.0 v))))

abbrev pub volumes_are : Inv → Bool
volumes_are v = list_all (is_volume v) v.stores.volumes

-- no chain of next pools comes back to the pool where it began
abbrev pub no_ring : Inv → Bool
no_ring v = list_all (λ p. not (comes_to p.0 p.1.settings.next v.stores.pools)) v.stores.pools

-- ---- device classes

-- the class whose volumes are of random access
abbrev pub disk : List ℕ
disk = codes "DISK"

-- a class gives a capacity for its volumes, but for DISK, whose volumes have one each
abbrev pub is_class : List ℕ × Option ℕ → Bool
is_class c = if is_same_name disk c.0 then is_none c.1 else is_some c.1

-- the class DISK is there, and it alone has no capacity
abbrev pub classes_are : Inv → Bool
classes_are v = is_some (named disk v.stores.classes) && list_all is_class v.stores.classes

-- ---- days

-- no day that is kept lies behind today
abbrev pub are_by_today : Inv → Bool
are_by_today v =
    list_all (λ version. nat_le version.stored v.today && option_map_or (λ day. nat_le day v.today) version.since true) (versions v)
    && (list_all (λ b. nat_le b.1.taken v.today) v.backups
    && list_all (λ f. option_map_or (λ day. nat_le day v.today) f.1.emptied true) v.stores.volumes)

-- the database is one
abbrev pub is_valid : Inv → Bool
is_valid v =
    nodes_cite v && (filespaces_cite v && (held_cite v && (rules_cite v && (pools_cite v && (volumes_cite v && (copies_cite v
    && (are_drawn v && (are_bounded v && (are_numbered v && (are_past v && (are_named v && (defaults_are_there v
    && (groups_are_orderly v && (versions_are_copied v && (volumes_are v && (no_ring v && (are_by_today v
    && (classes_are v && nat_le (count_items v) most_items))))))))))))))))))
