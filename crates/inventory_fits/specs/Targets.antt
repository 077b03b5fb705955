-- The volumes on which segments come, once the scratch volumes of a transaction are made.
use Rattle.std.specs.Prelude.{ℕ, ◌+◌, ◌%◌, Bool, false, ◌==◌, ◌&&◌, ◌||◌, nat_le, List, [], ◌∷◌, Option, Some, None, if◌then◌else◌}
use Rattle.std.specs.Option.{option_map_or}
use Rattle.kinds.specs.declared.segment.Segment.{Segment}
use Rattle.entries.specs.change_items.declared.items.ScratchVolume.{ScratchVolume}
use Rattle.inventory_rows.specs.volume_rows.declared.volume.Volume.{Volume}
use Rattle.inventory_rows.specs.pool_tables.Rows.{row_at}
use Rattle.inventory_rows.specs.pool_rows.PoolRows.{PoolRows, pool_capacity, is_sequential}
use Rattle.inventory_rows.specs.State.{Inv}
use Rattle.inventory_rules.specs.Common.{each}
use Rattle.inventory_rules.specs.Segments.{make_scratch}
use Rattle.inventory_fits.specs.declared.targets.Target.{Target}

-- the database once the scratch volumes are made
unfoldable pub made : List ScratchVolume → Inv → Inv
made scratch v = each make_scratch scratch v

-- what a volume's row says of it
abbrev pub target_of : Option Volume → Option Target
target_of None = None
target_of (Some volume) = Some (record { pool = volume.pool; capacity = volume.capacity })

-- a scratch volume has the capacity of its pool's device class
abbrev pub scratch_target : PoolRows → ScratchVolume → Target
scratch_target stores s = record { pool = s.pool; capacity = option_map_or (λ c. c) (pool_capacity s.pool stores) 0 }

-- the volume of a file is the last of the scratch volumes with that number, or the one that was there before
abbrev pub after_scratch : PoolRows → ℕ → List ScratchVolume → Option Target → Option Target
after_scratch stores file [] before = before
after_scratch stores file (s ∷ scratch) before = after_scratch stores file scratch (if s.file == file then Some (scratch_target stores s) else before)

-- the volume of a file once the scratch volumes are made
abbrev pub target_at : PoolRows → ℕ → List ScratchVolume → Option Target
target_at stores file scratch = after_scratch stores file scratch (target_of (row_at file stores.volumes))

-- it is there, and its pool is sequential
abbrev pub is_sequential_target : PoolRows → Option Target → Bool
is_sequential_target stores None = false
is_sequential_target stores (Some target) = is_sequential target.pool stores

-- a segment lies on it and ends within it; where it is of random access, the segment begins with a block
abbrev pub lies_at : Bool → ℕ → Segment → Option Target → Bool
lies_at sequential number s None = false
lies_at sequential number s (Some target) =
    target.pool == number && (nat_le (s.offset + 32 + s.len) target.capacity && (sequential || s.offset % 4096 == 0))
