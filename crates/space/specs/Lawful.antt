-- What is true of the free space that is found, and of what an object gets of it.
use Rattle.std.specs.Prelude.{◌≡◌, ◌≤◌, ◌+◌, ◌*◌, ◌/◌, ◌⊎◌, ℕ, Some, List, slice_get}
use Rattle.std.specs.List.{AllByRecursion}
use Rattle.kinds.specs.declared.segment.Segment.{Segment}
use Rattle.pool_rows.specs.volume_rows.declared.volume.Volume.{Volume}
use Rattle.space.specs.declared.counted.Counted.{Counted}
use Rattle.space.specs.declared.piece.Piece.{Piece}
use Rattle.space.specs.Pieces.{cut, segments_on}

-- the first block of a segment's frame, on a volume of random access
abbrev pub first_block : Segment → ℕ
first_block s = s.offset / 4096

-- the block behind its last
abbrev pub end_block : Segment → ℕ
end_block s = (s.offset + 32 + s.len + 4095) / 4096

-- two segments have no block in common
abbrev pub AreApart : Segment → Segment → Type 0
AreApart a b = (end_block a ≤ first_block b) ⊎ (end_block b ≤ first_block a)

-- the segment of so many bytes at the beginning of a piece
abbrev pub segment_in : Piece → ℕ → Segment
segment_in p len = record { file = p.file; offset = p.offset; len = len }

-- A piece of a volume of random access begins with a block and lies within the volume, and a segment in it has no block in common with a
-- copy's, with one that a ticket holds, or with one that a transaction took away which isn't forced yet.
pub record IsFree (c : Counted) (f : ℕ × Volume) (p : Piece) : Type 0 where
  pub on : p.file ≡ f.0
  pub block : (block : ℕ) × (p.offset ≡ 4096 * block)
  pub within : p.offset + 32 + p.room ≤ f.1.capacity
  pub apart : (len : ℕ) → len ≤ p.room → AllByRecursion (AreApart (segment_in p len)) (segments_on c f)

-- a piece is the front of one of these
abbrev pub IsFrontOf : List Piece → Piece → Type 0
IsFrontOf free q = (i : ℕ) × (p : Piece) × (slice_get free i ≡ Some p) × (q ≡ cut p q.room) × (q.room ≤ p.room)
