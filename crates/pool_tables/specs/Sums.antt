-- What volumes come to, one by one and over a pool.
use Rattle.std.specs.Prelude.{ℕ, ◌/◌, ◌==◌, List, if◌then◌else◌}
use Rattle.std.specs.List.{sum_by}
use Rattle.std.specs.Map.{values_of}
use Rattle.volume_rows.specs.declared.volume.Volume.{Volume}
use Rattle.volume_rows.specs.Holdings.{live_bytes, used_blocks}

-- the blocks of 4,096 bytes that frames on the volume use
abbrev pub used_blocks_on : Volume → ℕ
used_blocks_on v = used_blocks v.segments

-- how many blocks of 4,096 bytes the volume has
abbrev pub blocks_of_volume : Volume → ℕ
blocks_of_volume v = v.capacity / 4096

-- the bytes of the frames on the volume
abbrev pub live_bytes_on : Volume → ℕ
live_bytes_on v = live_bytes v.segments

-- 1 for a defined volume
abbrev pub defined_one : Volume → ℕ
defined_one v = if v.scratch then 0 else 1

-- 1 for a scratch volume
abbrev pub scratch_one : Volume → ℕ
scratch_one v = if v.scratch then 1 else 0

-- what a volume adds to the sum over this pool
abbrev pub part_of : (Volume → ℕ) → ℕ → Volume → ℕ
part_of measure pool v = if v.pool == pool then measure v else 0

-- the sum over the volumes of this pool
abbrev pub total_of : (Volume → ℕ) → ℕ → List (ℕ × Volume) → ℕ
total_of measure pool volumes = sum_by (part_of measure pool) (values_of volumes)
