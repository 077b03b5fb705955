-- The segments of the copies, put on their volumes.
use Rattle.std.specs.Prelude.{◌≡◌, ℕ, ◌==◌, Bool, true, false, is_some, List, [], ◌∷◌, ◌++◌, map, Option, Some, None, if◌then◌else◌}
use Rattle.std.specs.List.{flat_map, list_all}
use Rattle.kinds.specs.declared.segment.Segment.{Segment}
use Rattle.inventory_rows.specs.version_groups.declared.copies.CopyRow.{CopyRow}
use Rattle.inventory_rows.specs.version_groups.declared.group.Group.{Group}
use Rattle.inventory_rows.specs.version_groups.declared.groups.Filespace.{Filespace}
use Rattle.inventory_rows.specs.version_groups.declared.versions.Version.{Version}
use Rattle.inventory_rows.specs.object_rows.declared.held_object.HeldRow.{HeldRow}
use Rattle.inventory_rows.specs.object_rows.HeldRows.{held_versions}
use Rattle.inventory_rows.specs.volume_rows.declared.held.HeldSegment.{HeldSegment}
use Rattle.inventory_rows.specs.volume_rows.declared.volume.Volume.{Volume}
use Rattle.inventory_rows.specs.volume_rows.Held.{held_of}
use Rattle.inventory_rows.specs.volume_rows.Holdings.{with_segment}
use Rattle.inventory_rows.specs.pool_tables.Rows.{row_at}
use Rattle.inventory_rows.specs.pool_rows.PoolRows.{PoolRows}
use Rattle.inventory_rows.specs.Search.{copies}
use Rattle.inventory_rows.specs.State.{Inv}

-- the segment lies on a volume that is there
abbrev pub is_there : List (ℕ × Volume) → Segment → Bool
is_there volumes s = is_some (row_at s.file volumes)

-- each segment of each copy lies on a volume that is there
abbrev pub all_lie : Inv → Bool
all_lie v = list_all (λ e. list_all (is_there v.stores.volumes) e.1.segments) (copies v)

-- ---- the segments with their objects, in the order in which they are put

abbrev pub of_segments : ℕ → List Segment → List (ℕ × Segment)
of_segments object segments = map (λ s. (object, s)) segments

abbrev pub of_copies : ℕ → List CopyRow → List (ℕ × Segment)
of_copies object copies = flat_map (λ c. of_segments object c.segments) copies

abbrev pub of_versions : List Version → List (ℕ × Segment)
of_versions versions = flat_map (λ v. of_copies v.object v.copies) versions

abbrev pub of_groups : List (List ℕ × Group) → List (ℕ × Segment)
of_groups groups = flat_map (λ g. of_versions g.1.versions) groups

abbrev pub of_filespaces : List (ℕ × Filespace) → List (ℕ × Segment)
of_filespaces filespaces = flat_map (λ f. of_groups f.1.groups) filespaces

-- those of all that is kept: of the versions in the filespaces, and of the held objects
abbrev pub of_kept : List (ℕ × Filespace) → List (ℕ × HeldRow) → List (ℕ × Segment)
of_kept filespaces held = of_filespaces filespaces ++ of_versions (held_versions held)

-- ---- the volumes

-- the volumes with other segments on them
abbrev pub with_held : (ℕ → List (HeldSegment × ℕ) → List (HeldSegment × ℕ)) → List (ℕ × Volume) → List (ℕ × Volume)
with_held change volumes = map (λ f. (f.0, record f.1 { segments = change f.0 f.1.segments })) volumes

-- what a volume holds once the segment is put that may lie on it
abbrev pub held_with : ℕ × Segment → ℕ → List (HeldSegment × ℕ) → List (HeldSegment × ℕ)
held_with s file held = if s.1.file == file then with_segment (held_of s.0 s.1) held else held

-- the volumes once these segments are put on them; none where one lies on no volume that is there
abbrev pub filled : List (ℕ × Segment) → List (ℕ × Volume) → Option (List (ℕ × Volume))
filled [] volumes = Some volumes
filled (s ∷ segments) volumes = if is_there volumes s.1 then filled segments (with_held (held_with s) volumes) else None

-- these segments are put, or one of them lies on no volume that is there
abbrev pub Fills : Bool → List (ℕ × Volume) → List (ℕ × Volume) → List (ℕ × Segment) → Type 0
Fills true old new segments = filled segments old ≡ Some new
Fills false old new segments = filled segments old ≡ None

-- each segment of the copies lies on a volume that is there
abbrev pub are_there : List (ℕ × Filespace) → List (ℕ × HeldRow) → List (ℕ × Volume) → Bool
are_there filespaces held volumes = list_all (λ s. is_there volumes s.1) (of_kept filespaces held)

-- the second rows are the first ones with the segments of all copies put on the volumes
pub record AreFilled (filespaces : List (ℕ × Filespace)) (held : List (ℕ × HeldRow)) (s t : PoolRows) : Type 0 where
  pub filled : filled (of_kept filespaces held) s.volumes ≡ Some t.volumes
  pub only : t ≡ record s { volumes = t.volumes }

-- the database with these volumes
abbrev pub with_volumes : List (ℕ × Volume) → Inv → Inv
with_volumes volumes v = record v { stores = record v.stores { volumes = volumes } }

-- the second database is the first one with the segments of all copies put on its volumes
pub record IsFilled (v w : Inv) : Type 0 where
  pub filled : filled (of_kept v.clients.filespaces v.clients.held) v.stores.volumes ≡ Some w.stores.volumes
  pub only : w ≡ with_volumes w.stores.volumes v
