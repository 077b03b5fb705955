-- Where a client's file goes, and what a client's session looks up.
use Rattle.std.specs.Prelude.{ℕ, ◌+◌, ◌-◌, ◌*◌, ◌/◌, ◌==◌, ◌&&◌, Bool, true, false, nat_le, is_none, Option, Some, None, option_and_then, List, [], ◌∷◌, length, if◌then◌else◌}
use Rattle.std.specs.List.{list_all, find, slice_get}
use Rattle.std.specs.Option.{option_map, option_map_or}
use Rattle.kinds.specs.declared.pool.Access.{Access}
use Rattle.kinds.specs.declared.pool.Access.TheVariants.{ReadWrite, ReadOnly, Unavailable, Offsite, Destroyed}
use Rattle.kinds.specs.declared.rule.BackupRule.{BackupRule}
use Rattle.kinds.specs.declared.segment.Segment.{Segment}
use Rattle.inventory_rows.specs.policy_domains.Rows.{SetRow, DomainRow}
use Rattle.inventory_rows.specs.policy_domains.Rules.{group_of}
use Rattle.inventory_rows.specs.version_groups.declared.copies.CopyRow.{CopyRow}
use Rattle.inventory_rows.specs.version_groups.declared.versions.Version.{Version}
use Rattle.inventory_rows.specs.volume_rows.declared.held.HeldSegment.{HeldSegment}
use Rattle.inventory_rows.specs.volume_rows.declared.volume.Volume.{Volume}
use Rattle.inventory_rows.specs.volume_rows.Held.{end_of}
use Rattle.inventory_rows.specs.pool_tables.Rows.{row_at}
use Rattle.inventory_rows.specs.pool_rows.PoolRows.{is_sequential}
use Rattle.inventory_rows.specs.Search.{domain_of_node, group}
use Rattle.inventory_rows.specs.State.{Inv}
use Rattle.inventory_work.specs.Rules.{active_in}

-- so many bytes, rounded up to whole blocks of 4,096 bytes
abbrev pub whole_blocks : ℕ → ℕ
whole_blocks bytes = 4096 * ((bytes + 4095) / 4096)

-- how many bytes of a volume of random access a file of so many bytes uses: whole blocks, for a header of 32 bytes and the data
abbrev pub block_bytes : ℕ → ℕ
block_bytes len = whole_blocks (32 + len)

-- the last of some rows
abbrev pub last_of : {A : Type 0} → List A → Option A
last_of rows = slice_get rows (length rows - 1)

-- where the blocks in use of a volume end: with the last block of the last of its segments, which stand in the order of their places and don't
-- overlap; 0 where it has none
abbrev pub blocks_end : List (HeldSegment × ℕ) → ℕ
blocks_end held = option_map_or (λ e. whole_blocks (end_of e.0)) (last_of held) 0

-- what may be written: a volume whose access is READWRITE
abbrev pub is_writable : Access → Bool
is_writable ReadWrite = true
is_writable ReadOnly = false
is_writable Unavailable = false
is_writable Offsite = false
is_writable Destroyed = false

-- a volume of this pool, READWRITE, with room for the file behind its blocks in use
abbrev pub has_room : ℕ → ℕ → ℕ × Volume → Bool
has_room pool size e =
    e.1.pool == pool && (is_writable e.1.access && nat_le (blocks_end e.1.segments + block_bytes size) e.1.capacity)

-- the file behind the blocks in use of a volume
abbrev pub segment_on : ℕ → ℕ × Volume → Segment
segment_on size e = record { file = e.0; offset = blocks_end e.1.segments; len = size }

-- behind the blocks in use of the first of some volumes that has room
abbrev pub place_among : ℕ → ℕ → List (ℕ × Volume) → Option Segment
place_among pool size volumes = option_map (segment_on size) (find (has_room pool size) volumes)

-- where a file of so many bytes goes: on the volume of this pool with the least file number that has room; a pool on sequential devices has
-- no such place
abbrev pub place : ℕ → ℕ → Inv → Option Segment
place pool size v = if is_sequential pool v.stores then None else place_among pool size v.stores.volumes

-- the segments of the file's copy in this pool: none for an empty file, which needs no volume, and else one
abbrev pub segments_for : ℕ → ℕ → Inv → Option (List Segment)
segments_for pool size v = if size == 0 then Some [] else option_map (λ s. s ∷ []) (place pool size v)

-- a class with the rule of its backup copy group, where the class is in the set and has one
abbrev pub class_with_rule : SetRow → List ℕ → Option (List ℕ × BackupRule)
class_with_rule set class = option_map (λ rule. (class, rule)) (group_of class set)

-- a set's default class with its rule
abbrev pub default_of_set : SetRow → Option (List ℕ × BackupRule)
default_of_set set = option_and_then (class_with_rule set) set.default_class

-- the same for the set ACTIVE of a domain
abbrev pub default_in : List ℕ → List (List ℕ × DomainRow) → Option (List ℕ × BackupRule)
default_in domain domains = option_and_then default_of_set (active_in domain domains)

-- the management class to which a node's files are bound that no rule binds, with the rule of its backup copy group: the default class of the set
-- ACTIVE of the node's domain; none where the domain has no set ACTIVE, the set no default class, or the class no such group
abbrev pub default_rule : ℕ → Inv → Option (List ℕ × BackupRule)
default_rule node v = option_and_then (λ domain. default_in domain v.domains) (domain_of_node node v)

-- the newest of some versions, where it is active
abbrev pub active_of : List Version → Option Version
active_of [] = None
active_of (newest ∷ older) = if is_none newest.since then Some newest else None

-- the active version of a path of a filespace
abbrev pub active_version : ℕ → List ℕ → Inv → Option Version
active_version filespace path v = option_and_then (λ g. active_of g.versions) (group filespace path v)

-- what may be read: a volume whose access is READWRITE or READONLY
abbrev pub may_be_read : Access → Bool
may_be_read ReadWrite = true
may_be_read ReadOnly = true
may_be_read Unavailable = false
may_be_read Offsite = false
may_be_read Destroyed = false

-- the volume with this file number is there and may be read
abbrev pub is_readable : ℕ → Inv → Bool
is_readable file v = option_map_or (λ volume. may_be_read volume.access) (row_at file v.stores.volumes) false

-- a copy may be read: each of its segments lies on such a volume
abbrev pub can_read : CopyRow → Inv → Bool
can_read copy v = list_all (λ s. is_readable s.file v) copy.segments
