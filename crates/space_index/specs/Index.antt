-- What it means that the index is that of the rows and of what is held beside them.
use Rattle.std.specs.Prelude.{◌≡◌, ◌≢◌, ℕ, ◌+◌, ◌/◌, ◌==◌, Bool, Option, Some, None, List, if◌then◌else◌}
use Rattle.std.specs.List.{sum_by}
use Rattle.kinds.specs.declared.segment.Segment.{Segment}
use Rattle.volume_rows.specs.declared.held.HeldSegment.{HeldSegment}
use Rattle.volume_rows.specs.declared.volume.Volume.{Volume}
use Rattle.volume_rows.specs.Holdings.{weight_of}
use Rattle.pool_tables.specs.Rows.{row_at}
use Rattle.pool_rows.specs.PoolRows.{PoolRows, is_sequential}
use Rattle.extent_map.specs.Blocks.{free_runs, total_room}
use Rattle.space.specs.declared.places.Placed.{Placed}
use Rattle.space.specs.declared.claims.Claim.{Claim}
use Rattle.space.specs.Claims.{Claims}
use Rattle.space.specs.Volumes.{is_writable}
use Rattle.space_index.specs.declared.standing.Standing.{Standing}
use Rattle.space_index.specs.declared.random.RandomIndex.{RandomIndex}
use Rattle.space_index.specs.Counts.{reach, AreCounted}
use Rattle.space_index.specs.Listed.{rooms_at, some_room}

-- ---- what the rows and the claims say of a volume

-- a volume of random access: its pool, whether it may be written, and how many blocks it has
pub record Shape : Type 0 where
  pub pool : ℕ
  pub is_writable : Bool
  pub blocks : ℕ

abbrev pub shape_of : Volume → Shape
shape_of v = record { pool = v.pool; is_writable = is_writable v.access; blocks = v.capacity / 4096 }

abbrev pub shape_by : Bool → Volume → Option Shape
shape_by sequential v = if sequential then None else Some (shape_of v)

-- a volume that is there, and of random access
abbrev pub shape_of_row : PoolRows → Option Volume → Option Shape
shape_of_row s None = None
shape_of_row s (Some v) = shape_by (is_sequential v.pool s) v

abbrev pub shape_at : PoolRows → ℕ → Option Shape
shape_at s file = shape_of_row s (row_at file s.volumes)

-- a copy's segment on a volume
abbrev pub segment_on : ℕ → HeldSegment → Segment
segment_on file h = record { file = file; offset = h.offset; len = h.len }

-- how many segments of copies on a volume that is there use the block
abbrev pub copies_reach : ℕ → Option Volume → ℕ → ℕ
copies_reach file None block = 0
copies_reach file (Some v) block = weight_of (λ h. reach (segment_on file h) block) v.segments

-- 1 where the segment lies on the volume and uses the block
abbrev pub there_reach : Segment → ℕ → ℕ → ℕ
there_reach s file block = if s.file == file then reach s block else 0

-- how many of some places do
abbrev pub places_reach : List Placed → ℕ → ℕ → ℕ
places_reach places file block = sum_by (λ p. there_reach p.segment file block) places

-- how many segments that tickets hold do
abbrev pub tickets_reach : List (ℕ × Claim) → ℕ → ℕ → ℕ
tickets_reach tickets file block = sum_by (λ t. places_reach t.1.places file block) tickets

-- and how many of those that transactions took away
abbrev pub freed_reach : List (ℕ × List Placed) → ℕ → ℕ → ℕ
freed_reach freed file block = sum_by (λ f. places_reach f.1 file block) freed

-- how many segments do that tickets hold, or that transactions took away which aren't forced yet
abbrev pub claims_reach : Claims → ℕ → ℕ → ℕ
claims_reach c file block = tickets_reach c.tickets file block + freed_reach c.freed file block

-- how many segments use the block in all
abbrev pub times_at : PoolRows → Claims → ℕ → ℕ → ℕ
times_at s c file block = copies_reach file (row_at file s.volumes) block + claims_reach c file block

-- one segment more does
abbrev pub and_segment : Segment → (ℕ → ℕ → ℕ) → ℕ → ℕ → ℕ
and_segment s times file block = times file block + there_reach s file block

-- ---- the index

-- what stands in the index for a volume
pub record IsStanding (times : ℕ → ℕ) (shape : Shape) (e : Standing) : Type 0 where
  pub pool : e.pool ≡ shape.pool
  pub access : e.is_writable ≡ shape.is_writable
  pub counted : AreCounted e.blocks shape.blocks times

-- an entry stands there exactly where the volume is there and of random access
abbrev pub IsEntry : (ℕ → ℕ) → Option Shape → Option Standing → Type 0
IsEntry times None None = Unit {0}
IsEntry times None (Some e) = ⊥
IsEntry times (Some shape) None = ⊥
IsEntry times (Some shape) (Some e) = IsStanding times shape e

-- the room of a volume that may be written
abbrev pub room_of : Standing → ℕ
room_of e = if e.is_writable then total_room (free_runs e.blocks.used) else 0

-- its room, where it is of this pool and has room
abbrev pub room_in_pool : ℕ → Option Standing → Option ℕ
room_in_pool pool None = None
room_in_pool pool (Some e) = if e.pool == pool then some_room (room_of e) else None

-- each pool's list has its volumes that have room
abbrev pub AreListed : List (ℕ × Standing) → List (ℕ × List (ℕ × ℕ)) → Type 0
AreListed files pools = (pool file : ℕ) → row_at file (rooms_at pool pools) ≡ room_in_pool pool (row_at file files)

-- it is the index of these volumes, whose blocks so many segments use
pub record IsIndexBy (i : RandomIndex) (shapes : ℕ → Option Shape) (times : ℕ → ℕ → ℕ) : Type 0 where
  pub entry : (file : ℕ) → IsEntry (times file) (shapes file) (row_at file i.files.entries)
  pub listed : AreListed i.files.entries i.pools.entries

-- The index is that of these rows, and of what is held beside them.
abbrev pub IsRandomIndexOf : RandomIndex → PoolRows → Claims → Type 0
IsRandomIndexOf i s c = IsIndexBy i (shape_at s) (times_at s c)

-- ---- changes of the volumes

-- all volumes but one are as they were
abbrev pub AreSame : ℕ → (ℕ → Option Shape) → (ℕ → Option Shape) → Type 0
AreSame file shapes others = (q : ℕ) → q ≢ file → others q ≡ shapes q

-- the volume may be written from now on, or may not
abbrev pub with_access : Bool → Shape → Shape
with_access is_writable shape = record shape { is_writable = is_writable }

-- The entries of all volumes but one are as they were, and that one, if it is still kept, is in the pool in which it had room, or had none.
pub record StaysListed (file : ℕ) (old new : List (ℕ × Standing)) : Type 0 where
  pub others : (q : ℕ) → q ≢ file → row_at q new ≡ row_at q old
  pub pool : (e : Standing) → row_at file new ≡ Some e → (p : ℕ) → p ≢ e.pool → room_in_pool p (row_at file old) ≡ None
  pub gone : row_at file new ≡ None → row_at file old ≡ None

-- ---- changes of an entry

-- a segment more uses blocks of the volume
pub record IsPutOn (s : Segment) (a b : Standing) : Type 0 where
  pub pool : b.pool ≡ a.pool
  pub access : b.is_writable ≡ a.is_writable
  pub counted : (count : ℕ) (times : ℕ → ℕ) → AreCounted a.blocks count times → AreCounted b.blocks count (λ k. times k + reach s k)

-- a segment that used blocks of the volume went
pub record IsTakenFrom (s : Segment) (a b : Standing) : Type 0 where
  pub pool : b.pool ≡ a.pool
  pub access : b.is_writable ≡ a.is_writable
  pub counted : (count : ℕ) (times : ℕ → ℕ) → AreCounted a.blocks count (λ k. times k + reach s k) → AreCounted b.blocks count times

-- the volume may be written from now on, or may not
pub record HasAccess (is_writable : Bool) (a b : Standing) : Type 0 where
  pub pool : b.pool ≡ a.pool
  pub access : b.is_writable ≡ is_writable
  pub blocks : b.blocks ≡ a.blocks
