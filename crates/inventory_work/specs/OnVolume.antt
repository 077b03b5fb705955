-- The copies on a volume, by the objects of which the volume's row holds segments.
use Rattle.std.specs.Prelude.{◌≡◌, ℕ, not, Bool, ◌==◌, List, [], ◌∷◌}
use Rattle.std.specs.BTreeSet.{insert_key}
use Rattle.std.specs.List.{list_all, AllByRecursion}
use Rattle.std.specs.Option.{option_map_or}
use Rattle.std.specs.Ordering.{nat_cmp}
use Rattle.inventory_rows.specs.version_groups.Versions.{version_of}
use Rattle.inventory_rows.specs.volume_rows.declared.held.HeldSegment.{HeldSegment}
use Rattle.inventory_rows.specs.object_rows.Rows.{Rows, filespace_of_kept, kept_of}
use Rattle.inventory_rows.specs.Search.{segments_on}
use Rattle.inventory_rows.specs.State.{Inv}
use Rattle.inventory_work.specs.declared.copies.Where.{Where}
use Rattle.inventory_work.specs.declared.lines.CopyLine.{CopyLine}
use Rattle.inventory_work.specs.Copies.{copies_of_version, node_of}

-- none of the segments that a volume's row holds is of the object
abbrev pub holds_none : ℕ → List (HeldSegment × ℕ) → Bool
holds_none object held = list_all (λ e. not (e.0.object == object)) held

-- none of the copies' segments on the volume is of the object
abbrev pub has_none : ℕ → ℕ → Inv → Bool
has_none object file v = list_all (λ s. not (s.0 == object)) (segments_on file v)

-- each volume's row holds segments of the objects that have one there, and of no others
abbrev pub RowsHoldObjects : Inv → Type 0
RowsHoldObjects v = AllByRecursion (λ f. (object : ℕ) → holds_none object f.1.segments ≡ has_none object f.0 v) v.stores.volumes

-- the objects of the segments, with these, in ascending order, each once
abbrev pub objects_of : List ℕ → List (HeldSegment × ℕ) → List ℕ
objects_of objects [] = objects
objects_of objects (e ∷ held) = objects_of (insert_key nat_cmp objects e.0.object) held

-- the node in whose filespace an object is kept; 0 where it isn't kept
abbrev pub node_of_object : ℕ → Rows → ℕ
node_of_object object rows = option_map_or (λ filespace. node_of filespace rows.filespaces) (filespace_of_kept object rows) 0

-- the copies of an object that lie there
abbrev pub copies_of_object : Where → Rows → ℕ → List CopyLine
copies_of_object here rows object = option_map_or (copies_of_version here (node_of_object object rows)) (version_of object (kept_of rows)) []
