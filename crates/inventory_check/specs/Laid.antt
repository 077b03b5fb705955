-- The segments on a volume in the order of their offsets, each once and behind the one before it.
use Rattle.std.specs.Prelude.{ℕ, ◌+◌, ◌/◌, ◌%◌, ◌==◌, ◌&&◌, ◌||◌, Bool, true, not, nat_le, is_some, is_none, List, [], ◌∷◌, if◌then◌else◌}
use Rattle.inventory_rows.specs.volume_rows.declared.held.HeldSegment.{HeldSegment}
use Rattle.inventory_rows.specs.volume_rows.declared.volume.Volume.{Volume}
use Rattle.inventory_rows.specs.volume_rows.Held.{end_of}
use Rattle.inventory_rows.specs.volume_rows.Holdings.{is_bare}
use Rattle.inventory_rows.specs.Search.{is_primary}
use Rattle.inventory_rows.specs.State.{Inv}
use Rattle.inventory_rules.specs.Valid.{is_sized, may_have}

-- where a segment's frame begins and ends: in bytes, or on a volume of random access in blocks of 4,096
abbrev pub low_held : Bool → HeldSegment → ℕ
low_held sequential s = if sequential then s.offset else s.offset / 4096

abbrev pub high_held : Bool → HeldSegment → ℕ
high_held sequential s = if sequential then end_of s else (end_of s + 4095) / 4096

-- a segment ends at or before this place, and on a volume of random access begins with a block
abbrev pub fits_below : Bool → ℕ → HeldSegment → Bool
fits_below sequential most s = nat_le (end_of s) most && (sequential || s.offset % 4096 == 0)

-- it stands there once, and begins at this place or behind it
abbrev pub is_behind : Bool → ℕ → HeldSegment → ℕ → Bool
is_behind sequential low s repeats = repeats == 0 && nat_le low (low_held sequential s)

-- the segments fit, and each stands once and behind the one before it, the first at this place or behind it
abbrev pub are_laid : Bool → ℕ → ℕ → List (HeldSegment × ℕ) → Bool
are_laid sequential most low [] = true
are_laid sequential most low (e ∷ held) = (fits_below sequential most e.0 && is_behind sequential low e.0 e.1) && are_laid sequential most (high_held sequential e.0) held

-- the place at or before which each segment ends: the end of what was written, or of a volume of random access
abbrev pub limit_of : Bool → Volume → ℕ
limit_of sequential volume = if sequential then volume.end else volume.capacity

-- the day of emptying is there exactly for a sequential volume on which something was written and which has no segments
abbrev pub emptied_by : Bool → Volume → Bool → Bool
emptied_by sequential volume bare = if sequential && (not (volume.end == 0) && bare) then is_some volume.emptied else is_none volume.emptied

-- the volume is as its pool and the segments of its row say
abbrev pub row_agrees : Inv → Bool → Volume → Bool
row_agrees v sequential volume =
    is_sized sequential v volume
    && (may_have volume.access (is_primary volume.pool v) && (are_laid sequential (limit_of sequential volume) 0 volume.segments && emptied_by sequential volume (is_bare volume.segments)))
