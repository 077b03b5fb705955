use Rattle.std.specs.Prelude.{ℕ, ◌+◌, ◌-◌, ◌*◌, ◌==◌, ◌||◌, not, Bool, true, false, nat_lt, nat_le, max, Option, Some, None, Result, Ok, Err, if◌then◌else◌}
use Rattle.kinds.specs.declared.refusal.By.TheVariants.{Object}
use Rattle.kinds.specs.declared.refusal.Refusal.{Refusal}
use Rattle.kinds.specs.declared.refusal.Refusal.TheVariants.{NotFound, InUse, NotYet}
use Rattle.volume_rows.specs.declared.held.HeldSegment.{HeldSegment}
use Rattle.volume_rows.specs.declared.status.Status.{Status}
use Rattle.volume_rows.specs.declared.status.Status.TheVariants.{Online, Empty, Filling, Full, Pending}
use Rattle.volume_rows.specs.declared.volume.Volume.{Volume}
use Rattle.volume_rows.specs.Held.{end_of}
use Rattle.volume_rows.specs.Holdings.{is_bare, with_segment, without_segment, taken, live_bytes, least_object}

-- a sequential volume is too near its end for another block
abbrev pub is_near_end : Volume → Bool
is_near_end v = nat_lt (v.capacity - v.end) 4096

-- a sequential volume without copies is EMPTY where nothing was written since it was made or reused, and else PENDING; one
-- with copies is FULL where it is too near its end, and else FILLING
abbrev pub sequential_status : Volume → Status
sequential_status v =
    if is_bare v.segments then (if v.end == 0 then Empty else Pending) else (if is_near_end v then Full else Filling)

-- a random volume is ONLINE
abbrev pub status_of : Bool → Volume → Status
status_of sequential v = if sequential then sequential_status v else Online

abbrev pub is_full : Status → Bool
is_full Full = true
is_full Online = false
is_full Empty = false
is_full Filling = false
is_full Pending = false

-- a FULL volume is to be reclaimed where the space that no copy uses is at least `threshold` hundredths of its capacity
abbrev pub is_reclaimable : Bool → ℕ → Volume → Bool
is_reclaimable sequential threshold v =
    if is_full (status_of sequential v) then nat_le (threshold * v.capacity) ((v.capacity - live_bytes v.segments) * 100) else false

-- a volume that was emptied on this day may be reused from the day on that lies REUSEDELAY days behind it
abbrev pub rested : ℕ → ℕ → ℕ → ℕ → Result (Unit {0}) Refusal
rested file delay today day = if nat_le delay (today - day) then Ok tt else Err (NotYet file (day + delay))

-- a volume on which no segment lies may be reused once it has rested from the day on which it was emptied
abbrev pub reuse_since : ℕ → ℕ → ℕ → Option ℕ → Result (Unit {0}) Refusal
reuse_since file delay today None = Err NotFound
reuse_since file delay today (Some day) = rested file delay today day

abbrev pub reuse_unless_used : ℕ → ℕ → ℕ → Volume → Option ℕ → Result (Unit {0}) Refusal
reuse_unless_used file delay today v None = reuse_since file delay today v.emptied
reuse_unless_used file delay today v (Some object) = Err (InUse (Object object))

-- whether a volume may be reused: a sequential one on which something was written, without copies, and which has rested
abbrev pub may_reuse : Bool → ℕ → ℕ → ℕ → Volume → Result (Unit {0}) Refusal
may_reuse sequential file delay today v =
    if not sequential || v.end == 0 then Err NotFound else reuse_unless_used file delay today v (least_object v.segments)

-- a segment is written: a sequential volume ends no earlier than the segment, and isn't empty
abbrev pub put_on : Bool → HeldSegment → Volume → Volume
put_on true s v = record v { segments = with_segment s v.segments; end = max v.end (end_of s); emptied = None }
put_on false s v = record v { segments = with_segment s v.segments }

-- the last segment of a sequential volume went today
abbrev pub emptied_on : Bool → ℕ → Volume → Option ℕ
emptied_on sequential today v = if sequential then (if is_bare v.segments then Some today else v.emptied) else v.emptied

-- the volume with these segments left
abbrev pub left_on : Bool → ℕ → Volume → Volume
left_on sequential today v = record v { emptied = emptied_on sequential today v }

-- a segment goes
abbrev pub take_from : Bool → HeldSegment → ℕ → Volume → Volume
take_from sequential s today v = left_on sequential today (record v { segments = without_segment s v.segments })

-- what a put segment changed is put back
abbrev pub undo_on : Bool → HeldSegment → ℕ → Option ℕ → Volume → Volume
undo_on true s end emptied v = record v { segments = without_segment s v.segments; end = end; emptied = emptied }
undo_on false s end emptied v = record v { segments = without_segment s v.segments }

-- a volume is written from its beginning again
abbrev pub reset : Volume → Volume
reset v = record v { end = 0; emptied = None }
