-- When a piece of an object can't be read.
use Rattle.std.specs.Prelude.{◌≡◌, ◌⊎◌, ℕ, ◌-◌, ◌==◌, min, false, List, filter, take, drop, Contains, if◌then◌else◌}
use Rattle.std.specs.List.{AllByRecursion}
use Rattle.contents.specs.store_api.Cause.{Rose}
use Rattle.kinds.specs.declared.segment.Segment.{Segment}
use Rattle.steps.specs.inventory_rows.version_groups.declared.copies.CopyRow.{CopyRow}
use Rattle.steps.specs.inventory_rows.version_groups.declared.versions.Version.{Version}
use Rattle.steps.specs.inventory_rows.State.{Inv}
use Rattle.contents.specs.Reading.{segments_in}
use Rattle.placing.specs.Placing.{is_readable}

-- a file's count of faults rose, from the one to the other
abbrev pub RoseAt : (before after : ℕ → ℕ) → ℕ → Type 0
RoseAt before after file = Rose (before file) (after file)

-- the copies that are asked: that of one pool, or with 0 all
abbrev pub asked_copies : ℕ → List CopyRow → List CopyRow
asked_copies from copies = if from == 0 then copies else filter (λ c. c.pool == from) copies

-- the volume of a segment may not be read, or its file's count rose
abbrev pub IsLost : (rose : ℕ → Type 0) → Inv → Segment → Type 0
IsLost rose v s = (is_readable s.file v ≡ false) ⊎ rose s.file

-- the copy has such a segment in the piece
abbrev pub IsCopyLost : (rose : ℕ → Type 0) → Inv → (offset count : ℕ) → CopyRow → Type 0
IsCopyLost rose v offset count copy = (s : Segment) × Contains (segments_in 0 offset count copy.segments) s × IsLost rose v s

-- each of the copies that are asked has one: exactly then the piece is refused
abbrev pub IsUnavailable : (rose : ℕ → Type 0) → Inv → (from offset count : ℕ) → Version → Type 0
IsUnavailable rose v from offset count w = AllByRecursion (IsCopyLost rose v offset count) (asked_copies from w.copies)

-- how many bytes a piece has of what an object has from the offset on, and which they are
abbrev pub piece_length : (wanted size offset : ℕ) → ℕ
piece_length wanted size offset = min wanted (size - offset)

abbrev pub piece : (offset count : ℕ) → List ℕ → List ℕ
piece offset count bytes = take count (drop offset bytes)
