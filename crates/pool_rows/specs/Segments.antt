-- The changes of one volume: segments that come and go, its reuse, and scratch volumes.
use Rattle.std.specs.Prelude.{ℕ, Bool, true, false, Option, Some, None, Result, Ok, Err, List, if◌then◌else◌, nat_le}
use Rattle.pool_tables.specs.kinds.declared.refusal.Refusal.{Refusal}
use Rattle.pool_tables.specs.kinds.declared.refusal.Refusal.TheVariants.{NotFound}
use Rattle.pool_tables.specs.kinds.declared.segment.Segment.{Segment}
use Rattle.pool_tables.specs.volume_rows.declared.held.HeldSegment.{HeldSegment}
use Rattle.pool_tables.specs.volume_rows.declared.volume.Volume.{Volume}
use Rattle.pool_tables.specs.volume_rows.Held.{held_of, end_of}
use Rattle.pool_tables.specs.volume_rows.Holdings.{is_held, is_bare}
use Rattle.pool_tables.specs.volume_rows.Volumes.{may_reuse, undo_on}
use Rattle.pool_tables.specs.declared.pool.Pool.{Pool}
use Rattle.pool_tables.specs.Rows.{row_at, with_row, edit_row, change_row}
use Rattle.pool_tables.specs.RowChanges.{put, take, end_of_row, emptied_of_row, reuse_volume, scratch_volume}
use Rattle.pool_rows.specs.PoolRows.{PoolRows, pool_capacity, is_sequential_at}

-- the state with these volumes, or the refusal
abbrev pub with_volumes : PoolRows → Result (List (ℕ × Volume)) Refusal → Result PoolRows Refusal
with_volumes s (Ok volumes) = Ok (record s { volumes = volumes })
with_volumes s (Err e) = Err e

-- a segment of an object comes
abbrev pub put_segment : ℕ → Segment → PoolRows → Result PoolRows Refusal
put_segment object segment s =
    with_volumes s (change_row segment.file (put (is_sequential_at segment.file s) (held_of object segment)) s.volumes)

-- a segment of an object goes
abbrev pub take_segment : ℕ → Segment → ℕ → PoolRows → Result PoolRows Refusal
take_segment object segment today s =
    with_volumes s (change_row segment.file (take (is_sequential_at segment.file s) (held_of object segment) today) s.volumes)

-- the volume is not there, or the segment ends within its capacity
abbrev pub fits : HeldSegment → Option Volume → Bool
fits segment None = true
fits segment (Some v) = nat_le (end_of segment) v.capacity

-- a segment that was put is undone
abbrev pub undo_segment : ℕ → Segment → ℕ → Option ℕ → PoolRows → PoolRows
undo_segment object segment end emptied s =
    record s { volumes = edit_row segment.file (undo_on (is_sequential_at segment.file s) (held_of object segment) end emptied) s.volumes }

-- the volume is there, and so is the segment
abbrev pub is_there : HeldSegment → Option Volume → Bool
is_there segment None = false
is_there segment (Some v) = is_held segment v.segments

-- where the volume's next frame would be written
abbrev pub end_at : ℕ → PoolRows → ℕ
end_at file s = end_of_row (row_at file s.volumes)

-- the day on which the volume was emptied
abbrev pub emptied_at : ℕ → PoolRows → Option ℕ
emptied_at file s = emptied_of_row (row_at file s.volumes)

abbrev pub delay_of : Option Pool → ℕ
delay_of None = 0
delay_of (Some pool) = pool.settings.reuse_delay

abbrev pub reuse_row : PoolRows → ℕ → ℕ → Option Volume → Result (Unit {0}) Refusal
reuse_row s file today None = Err NotFound
reuse_row s file today (Some v) = may_reuse (is_sequential_at file s) file (delay_of (row_at v.pool s.pools)) today v

-- whether the volume may be reused today
abbrev pub may_reuse_at : ℕ → ℕ → PoolRows → Result (Unit {0}) Refusal
may_reuse_at file today s = reuse_row s file today (row_at file s.volumes)

abbrev pub reused : ℕ → PoolRows → Result (Unit {0}) Refusal → Result PoolRows Refusal
reused file s (Ok _) = Ok (record s { volumes = reuse_volume file s.volumes })
reused file s (Err e) = Err e

-- a volume is reused, where it may be
abbrev pub reuse : ℕ → ℕ → PoolRows → Result PoolRows Refusal
reuse file today s = reused file s (may_reuse_at file today s)

abbrev pub scratch_added : ℕ → ℕ → PoolRows → Option ℕ → Result PoolRows Refusal
scratch_added pool file s None = Err NotFound
scratch_added pool file s (Some capacity) = Ok (record s { volumes = with_row file (scratch_volume pool file capacity) s.volumes })

-- a scratch volume is made for a sequential pool
abbrev pub add_scratch : ℕ → ℕ → PoolRows → Result PoolRows Refusal
add_scratch pool file s = scratch_added pool file s (pool_capacity pool s)

-- a scratch volume without segments
abbrev pub is_bare_scratch : Option Volume → Bool
is_bare_scratch None = false
is_bare_scratch (Some v) = if v.scratch then is_bare v.segments else false
