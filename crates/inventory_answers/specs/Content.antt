-- The objects on a volume.
use Rattle.std.specs.Prelude.{ℕ, ◌+◌, List, [], ◌∷◌, map, unwrap_or, ◌≡◌, Option, option_and_then, Result, Ok, Err, if◌then◌else◌}
use Rattle.std.specs.BTreeMap.{insert_entry}
use Rattle.std.specs.List.{sum_by}
use Rattle.std.specs.Option.{option_map}
use Rattle.std.specs.Ordering.{nat_cmp}
use Rattle.kinds.specs.declared.refusal.Refusal.{Refusal}
use Rattle.kinds.specs.declared.refusal.Refusal.TheVariants.{Memory}
use Rattle.inventory_work.specs.inventory_rows.version_groups.Entries.{if_found}
use Rattle.inventory_work.specs.inventory_rows.volume_rows.declared.held.HeldSegment.{HeldSegment}
use Rattle.inventory_work.specs.inventory_rows.volume_rows.declared.volume.Volume.{Volume}
use Rattle.inventory_work.specs.inventory_rows.object_rows.Filespaces.{at_number}
use Rattle.inventory_work.specs.inventory_rows.pool_tables.Rows.{row_at}
use Rattle.inventory_work.specs.inventory_rows.pool_rows.PoolRows.{PoolRows, volume_named}
use Rattle.inventory_work.specs.inventory_rows.Search.{version}
use Rattle.inventory_work.specs.inventory_rows.State.{Inv}
use Rattle.inventory_answers.specs.declared.lines.ContentLine.{ContentLine}

-- how many segments were counted for an object
abbrev pub so_far : ℕ → List (ℕ × ℕ) → ℕ
so_far object counts = unwrap_or (row_at object counts) 0

-- a segment counts for its object, as often as it stands there
abbrev pub with_segment : List (ℕ × ℕ) → HeldSegment × ℕ → List (ℕ × ℕ)
with_segment counts e = insert_entry nat_cmp counts e.0.object (so_far e.0.object counts + (e.1 + 1))

-- each object with the number of its segments, by object, each object once: those that were counted, and these
abbrev pub counted : List (ℕ × ℕ) → List (HeldSegment × ℕ) → List (ℕ × ℕ)
counted counts [] = counts
counted counts (e ∷ held) = counted (with_segment counts e) held

-- how many of the segments are the object's
abbrev pub segments_of : ℕ → List (HeldSegment × ℕ) → ℕ
segments_of object held = sum_by (λ e. if at_number object e.0.object then e.1 + 1 else 0) held

-- the size of an object, where it is kept
abbrev pub size_of_object : ℕ → Inv → Option ℕ
size_of_object object v = option_map (λ w. w.size) (version object v)

-- an object on a volume, with its size
abbrev pub content_line : Inv → List ℕ → ℕ × ℕ → ContentLine
content_line v volume c = record { volume = volume; object = c.0; size = size_of_object c.0 v; segments = c.1 }

-- the objects on a volume, by object
abbrev pub content_lines : Inv → Volume → List ContentLine
content_lines v volume = map (content_line v volume.name) (counted [] volume.segments)

-- the volume with this name
abbrev pub volume_at : List ℕ → PoolRows → Option Volume
volume_at name s = option_and_then (λ file. row_at file s.volumes) (volume_named name s)

-- the objects on the volume with this name, which has to be there
abbrev pub content_of : List ℕ → Inv → Result (List ContentLine) Refusal
content_of name v = if_found (volume_at name v.stores) (λ volume. Ok (content_lines v volume))

-- a count becomes what is said, or memory is wanted
abbrev pub Counts : Result (Unit {0}) Refusal → List (ℕ × ℕ) → List (ℕ × ℕ) → Type 0
Counts (Ok _) new said = new ≡ said
Counts (Err e) new said = e ≡ Memory
