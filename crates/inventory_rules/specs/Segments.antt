-- The segments and the scratch volumes of transactions on data: why the volumes are refused, where segments come and go, what has to fit, and what a step needs.
use Rattle.std.specs.List.{flat_map, list_all, list_any, sum_by}
use Rattle.std.specs.Option.{option_map_or}
use Rattle.std.specs.Prelude.{List, ◌++◌, map, ℕ, [], ◌∷◌, Bool, ◌||◌, nat_le, ◌+◌, ◌%◌, false, ◌==◌, ◌&&◌, Option, Some, None, not, is_some, IsTrue, ◌≡◌, ◌<◌, ◌^◌}
use Rattle.kinds.specs.declared.refusal.Refusal.{Refusal}
use Rattle.kinds.specs.declared.segment.Segment.{Segment}
use Rattle.entries.specs.change_items.declared.items.MovedCopy.{MovedCopy}
use Rattle.entries.specs.change_items.declared.items.ScratchVolume.{ScratchVolume}
use Rattle.inventory_rows.specs.version_groups.Entries.{all_later}
use Rattle.inventory_rows.specs.version_groups.declared.copies.CopyRow.{CopyRow}
use Rattle.inventory_rows.specs.volume_rows.Held.{end_of, held_of}
use Rattle.inventory_rows.specs.volume_rows.declared.held.HeldSegment.{HeldSegment}
use Rattle.inventory_rows.specs.volume_rows.declared.volume.Volume.{Volume}
use Rattle.inventory_rows.specs.pool_tables.RowChanges.{scratch_volume}
use Rattle.inventory_rows.specs.pool_tables.Rows.{with_row, row_at}
use Rattle.inventory_rows.specs.pool_rows.PoolRows.{pool_capacity, is_sequential, is_sequential_at}
use Rattle.inventory_rows.specs.pool_rows.Segments.{put_segment, take_segment}
use Rattle.inventory_rows.specs.Search.{segments_on, pool}
use Rattle.inventory_rows.specs.State.{Inv}
use Rattle.inventory_rules.specs.Common.{file_bound, files_refused, or_same, with_stores, draw_file}
use Rattle.inventory_rules.specs.Valid.{high_of, low_of}

-- ---- refused

abbrev pub scratch_refused : List ScratchVolume → Inv → List Refusal
scratch_refused scratch v = files_refused (map (λ s. s.file) scratch) v ++ flat_map (λ s. file_bound s.file v) scratch

-- ---- effect

-- the segments of an object's copy come on their volumes
abbrev pub put : ℕ → List Segment → Inv → Inv
put object [] v = v
put object (s ∷ segments) v = put object segments (with_stores (or_same v.stores (put_segment object s v.stores)) v)

-- the segments of an object's copy go from their volumes today
abbrev pub take_away : ℕ → List Segment → Inv → Inv
take_away object [] v = v
take_away object (s ∷ segments) v = take_away object segments (with_stores (or_same v.stores (take_segment object s v.today v.stores)) v)

-- the segments of all copies of a version go
abbrev pub take_all : ℕ → List CopyRow → Inv → Inv
take_all object [] v = v
take_all object (c ∷ copies) v = take_all object copies (take_away object c.segments v)

-- a scratch volume is made, of the capacity of its pool's device class
abbrev pub make_scratch : ScratchVolume → Inv → Inv
make_scratch s v =
    draw_file s.file (with_stores (record v.stores { volumes = with_row s.file (scratch_volume s.pool s.file (option_map_or (λ c. c) (pool_capacity s.pool v.stores) 0)) v.stores.volumes }) v)

-- ---- fits

-- two frames on one volume don't overlap
abbrev pub are_clear : Bool → Segment → Segment → Bool
are_clear sequential a b = nat_le (high_of sequential a) (low_of sequential b) || nat_le (high_of sequential b) (low_of sequential a)

-- a segment lies on a volume of the pool that is there and ends within it; on one of random access it begins with a block
abbrev pub lies_rightly : Bool → ℕ → Segment → Option Volume → Bool
lies_rightly sequential number s None = false
lies_rightly sequential number s (Some volume) =
    volume.pool == number && (nat_le (s.offset + 32 + s.len) volume.capacity && (sequential || s.offset % 4096 == 0))

-- one of these copies that move is the object's copy in the pool
abbrev pub leaves : List MovedCopy → ℕ → ℕ → Bool
leaves moved pool object = list_any (λ i. object == i.object && pool == i.from) moved

-- so lies a new segment, and it overlaps none that lies there, but for those of copies that move from there
abbrev pub segment_fits_after : List MovedCopy → Inv → ℕ → Segment → Bool
segment_fits_after moved v number s =
    lies_rightly (is_sequential number v.stores) number s (row_at s.file v.stores.volumes)
    && list_all (λ e. leaves moved number e.0 || are_clear (is_sequential number v.stores) s e.1) (segments_on s.file v)

-- the same where none moves
abbrev pub segment_fits : Inv → ℕ → Segment → Bool
segment_fits v number s = segment_fits_after [] v number s

-- no two of the new segments overlap
abbrev pub are_all_clear : Inv → List Segment → Bool
are_all_clear v segments = all_later (λ a b. not (a.file == b.file) || are_clear (is_sequential_at a.file v.stores) a b) segments

-- a copy of so many bytes: its pool is there, its segments have the bytes, and each fits
abbrev pub copy_fits_after : List MovedCopy → Inv → ℕ → ℕ → List Segment → Bool
copy_fits_after moved v number size segments =
    is_some (pool number v) && (sum_by (λ s. s.len) segments == size && list_all (segment_fits_after moved v number) segments)

-- the same where none moves
abbrev pub copy_fits : Inv → ℕ → ℕ → List Segment → Bool
copy_fits v number size segments = copy_fits_after [] v number size segments

-- scratch volumes are made for sequential pools
abbrev pub scratch_fits : Inv → List ScratchVolume → Bool
scratch_fits v scratch = list_all (λ s. is_sequential s.pool v.stores) scratch

-- each item fits once the scratch volumes are made, and no two of the new segments overlap
abbrev pub items_fit : {X : Type 0} → (Inv → X → Bool) → (X → List Segment) → List X → Inv → Bool
items_fit fits segments items v = list_all (fits v) items && are_all_clear v (flat_map segments items)

-- ---- made

-- a volume is there, and the segment ends within its capacity
abbrev pub has_room : HeldSegment → Option Volume → Bool
has_room segment None = false
has_room segment (Some volume) = nat_le (end_of segment) volume.capacity

abbrev pub CanPut : ℕ → Segment → Inv → Type 0
CanPut object s v = IsTrue (has_room (held_of object s) (row_at s.file v.stores.volumes))

-- a segment of an object comes on its volume
abbrev pub put_step : ℕ → Segment → Inv → Inv
put_step object s v = with_stores (or_same v.stores (put_segment object s v.stores)) v

-- a scratch volume has a file number that no volume has, with one behind it, and a pool that is sequential
pub record CanScratch (s : ScratchVolume) (v : Inv) : Type 0 where
  pub free : row_at s.file v.stores.volumes ≡ None
  pub sequential : IsTrue (is_sequential s.pool v.stores)
  pub next : s.file + 1 < 2 ^ 32
