-- How many segments use each block of a volume of random access.
use Rattle.std.specs.Prelude.{◌≡◌, ℕ, ◌+◌, ◌<◌, Bool, true, false, unwrap_or, List, length, slice_index_or, if◌then◌else◌}
use Rattle.kinds.specs.declared.segment.Segment.{Segment}
use Rattle.pool_tables.specs.Rows.{row_at}
use Rattle.space.specs.Pieces.{covers}
use Rattle.space_index.specs.declared.blocks.Blocks.{Blocks}

-- 1 where it holds
abbrev pub one_if : Bool → ℕ
one_if b = if b then 1 else 0

-- 1 where the segment uses the block
abbrev pub reach : Segment → ℕ → ℕ
reach s block = one_if (covers block s)

-- how many segments use a block beside the first that does
abbrev pub more_at : ℕ → List (ℕ × ℕ) → ℕ
more_at block more = unwrap_or (row_at block more) 0

-- so many segments use a block, of which it is kept whether it is used, and by how many beside the first
abbrev pub IsUsedBy : Bool → ℕ → ℕ → Type 0
IsUsedBy true more times = times ≡ more + 1
IsUsedBy false more times = (more ≡ 0) × (times ≡ 0)

-- a volume has so many blocks, and each of them is used as often as that
pub record AreCounted (b : Blocks) (count : ℕ) (times : ℕ → ℕ) : Type 0 where
  pub all : length b.used ≡ count
  pub each : (k : ℕ) → k < count → IsUsedBy (slice_index_or b.used k false) (more_at k b.more.entries) (times k)
