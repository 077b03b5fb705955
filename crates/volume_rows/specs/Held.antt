use Rattle.std.specs.Prelude.{ℕ, ◌+◌, ◌/◌}
use Rattle.std.specs.Ordering.{ordering_then, nat_cmp}
use Rattle.std.specs.declared.cmp.Ordering.{Ordering}
use Rattle.kinds.specs.declared.segment.Segment.{Segment}
use Rattle.volume_rows.specs.declared.held.HeldSegment.{HeldSegment}

-- this segment, of this object
abbrev pub held_of : ℕ → Segment → HeldSegment
held_of object segment = record { offset = segment.offset; object = object; len = segment.len }

-- a segment's frame: a header of 32 bytes, and the data
abbrev pub frame_bytes : HeldSegment → ℕ
frame_bytes s = s.len + 32

-- the place on the volume behind the segment's frame
abbrev pub end_of : HeldSegment → ℕ
end_of s = s.offset + 32 + s.len

-- how many blocks of 4,096 bytes the frame uses, the last one perhaps in part
abbrev pub blocks_of : HeldSegment → ℕ
blocks_of s = (s.len + 32 + 4095) / 4096

-- by offset, then by object, then by length
abbrev pub held_cmp : HeldSegment → HeldSegment → Ordering
held_cmp a b = ordering_then (nat_cmp a.offset b.offset) (ordering_then (nat_cmp a.object b.object) (nat_cmp a.len b.len))
