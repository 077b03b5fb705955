-- Changes of one row: of a volume's segments, its reuse and its access, and of a pool's settings.
use Rattle.std.specs.Prelude.{ℕ, Bool, true, false, Option, Some, None, Result, Ok, Err, List, [], if◌then◌else◌}
use Rattle.volume_rows.specs.kinds.declared.pool.Access.{Access}
use Rattle.volume_rows.specs.kinds.declared.pool.Access.TheVariants.{ReadWrite}
use Rattle.volume_rows.specs.kinds.declared.pool.PoolRule.{PoolRule}
use Rattle.volume_rows.specs.kinds.declared.refusal.Refusal.{Refusal}
use Rattle.volume_rows.specs.kinds.declared.refusal.Refusal.TheVariants.{NotFound}
use Rattle.volume_rows.specs.declared.held.HeldSegment.{HeldSegment}
use Rattle.volume_rows.specs.declared.volume.Volume.{Volume}
use Rattle.volume_rows.specs.Holdings.{is_held}
use Rattle.volume_rows.specs.Volumes.{put_on, take_from, reset}
use Rattle.pool_tables.specs.declared.pool.Pool.{Pool}
use Rattle.pool_tables.specs.Rows.{row_at, without_row, edit_row}
use Rattle.pool_tables.specs.Scratch.{scratch_name}

-- a segment is put on a volume
abbrev pub put : Bool → HeldSegment → Volume → Result Volume Refusal
put sequential segment v = Ok (put_on sequential segment v)

-- a segment is taken from a volume, where it is there
abbrev pub take : Bool → HeldSegment → ℕ → Volume → Result Volume Refusal
take sequential segment today v =
    if is_held segment v.segments then Ok (take_from sequential segment today v) else Err NotFound

abbrev pub end_of_row : Option Volume → ℕ
end_of_row None = 0
end_of_row (Some v) = v.end

abbrev pub emptied_of_row : Option Volume → Option ℕ
emptied_of_row None = None
emptied_of_row (Some v) = v.emptied

-- the volume is there and a scratch volume
abbrev pub is_scratch_row : Option Volume → Bool
is_scratch_row None = false
is_scratch_row (Some v) = v.scratch

-- the volumes after one is reused: a scratch volume goes, and a defined one is written from its beginning again
abbrev pub reuse_volume : ℕ → List (ℕ × Volume) → List (ℕ × Volume)
reuse_volume file volumes =
    if is_scratch_row (row_at file volumes) then without_row file volumes else edit_row file reset volumes

-- a new scratch volume
abbrev pub scratch_volume : ℕ → ℕ → ℕ → Volume
scratch_volume pool file capacity = record {
  name = scratch_name file;
  pool = pool;
  scratch = true;
  capacity = capacity;
  access = ReadWrite;
  end = 0;
  emptied = None;
  segments = [];
}

-- the volume with this access
abbrev pub with_access : Access → Volume → Volume
with_access access v = record v { access = access }

-- the pool with these settings
abbrev pub with_settings : PoolRule → Pool → Pool
with_settings rule pool = record pool { settings = rule }
