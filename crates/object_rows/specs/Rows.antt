-- Nodes and filespaces with their versions, and their changes.
use Rattle.std.specs.Prelude.{◌≡◌, ℕ, ◌^◌, Bool, true, false, nat_le, List, [], ◌∷◌, ◌++◌, length, Option, Some, None, IsTrue, Result, Ok, Err, if◌then◌else◌}
use Rattle.version_groups.specs.kinds.declared.refusal.Refusal.{Refusal}
use Rattle.version_groups.specs.kinds.declared.refusal.Refusal.TheVariants.{InventoryFull}
use Rattle.version_groups.specs.declared.copies.CopyChange.{CopyChange}
use Rattle.version_groups.specs.declared.copies.CopyRow.{CopyRow}
use Rattle.version_groups.specs.declared.group.GroupChange.{GroupChange}
use Rattle.version_groups.specs.declared.group.GroupChange.TheVariants.{Remove, Undo}
use Rattle.version_groups.specs.declared.groups.Filespace.{Filespace}
use Rattle.version_groups.specs.declared.versions.Version.{Version}
use Rattle.version_groups.specs.Copies.{copies_after, takes_free_pool}
use Rattle.version_groups.specs.Entries.{on_ok, if_found}
use Rattle.version_groups.specs.Groups.{WasSo}
use Rattle.version_groups.specs.Versions.{has_object, are_distinct, copies_of, version_of}
use Rattle.std.specs.Map.{lookup}
use Rattle.std.specs.Cmp.Lexicographic.{slice_cmp}
use Rattle.std.specs.Ordering.{nat_cmp}
use Rattle.std.specs.Option.{option_map, option_or}
use Rattle.object_rows.specs.declared.held_object.HeldObject.{HeldObject}
use Rattle.object_rows.specs.declared.held_object.HeldRow.{HeldRow}
use Rattle.object_rows.specs.declared.place.Node.{Node}
use Rattle.object_rows.specs.declared.place.Place.{Place}
use Rattle.object_rows.specs.Filespaces.{at_number, filespace_at, filespaces_after, filespaces_copied, filespaces_with, group_at, versions_of}
use Rattle.object_rows.specs.HeldRows.{are_held_rows, has_row, has_under, held_at, held_copied, held_versions, held_with, held_without}
use Rattle.object_rows.specs.Index.{AreDistinct}
use Rattle.object_rows.specs.Names.{named, named_of}
use Rattle.object_rows.specs.Places.{are_all_full, filespace_with, listed}

-- what the database keeps of nodes and of filespaces with their versions, each in ascending order of the numbers
pub record Rows : Type 0 where
  pub nodes : List (ℕ × Node)
  pub filespaces : List (ℕ × Filespace)
  pub held : List (ℕ × HeldRow)

-- all that is kept: the versions of the filespaces, and those of the held objects in ascending order of their numbers
abbrev pub kept_of : Rows → List Version
kept_of rows = versions_of rows.filespaces ++ held_versions rows.held

-- how many objects may be kept
abbrev pub most_kept : ℕ
most_kept = 2 ^ 20

-- nothing that is kept is of the object
abbrev pub IsNew : ℕ → Rows → Type 0
IsNew object rows = has_object object (kept_of rows) ≡ false

-- the copies of the object leave the pool free that a change of them takes: none but the one that is replaced lies in it
abbrev pub FreePool : CopyChange → ℕ → Rows → Type 0
FreePool change object rows = IsTrue (takes_free_pool change (copies_of object (kept_of rows)))

-- the rows after a change of the filespaces
abbrev pub with_filespaces : Rows → Result (List (ℕ × Filespace)) Refusal → Result Rows Refusal
with_filespaces rows said = on_ok (λ filespaces. record { nodes = rows.nodes; filespaces = filespaces; held = rows.held }) said

-- the rows after a change of the held objects
abbrev pub with_held : Rows → Result (List (ℕ × HeldRow)) Refusal → Result Rows Refusal
with_held rows said = on_ok (λ held. record { nodes = rows.nodes; filespaces = rows.filespaces; held = held }) said

-- the rows once a new version is the newest of its path; the filespace has to be there, and room for one object more
abbrev pub rows_with : ℕ → List ℕ → List ℕ → Version → Rows → Result Rows Refusal
rows_with n path class version rows =
    if_found (filespace_at n rows.filespaces) (λ _. if nat_le most_kept (length (kept_of rows)) then Err InventoryFull else with_filespaces rows (filespaces_with n path class version rows.filespaces))

-- the rows once an object is held in a filespace, which has to be there, as has room for one object more
abbrev pub rows_holding : ℕ → HeldObject → Rows → Result Rows Refusal
rows_holding n it rows =
    if_found (filespace_at n rows.filespaces) (λ _. if nat_le most_kept (length (kept_of rows)) then Err InventoryFull else with_held rows (Ok (held_with n it rows.held)))

-- the rows after a change of the group of a path
abbrev pub rows_after : ℕ → List ℕ → GroupChange → Rows → Result Rows Refusal
rows_after n path change rows = with_filespaces rows (filespaces_after n path change rows.filespaces)

-- the filespaces once the object's version is gone from the place that was found for it
abbrev pub filespaces_cleared : ℕ → Option Place → List (ℕ × Filespace) → Result (List (ℕ × Filespace)) Refusal
filespaces_cleared object found filespaces =
    if_found found (λ place. filespaces_after place.filespace place.path (Remove object) filespaces)

-- the rows once the object is gone from a path of a filespace, where it is held, or a version
abbrev pub rows_cleared : ℕ → List ℕ → ℕ → Rows → Result Rows Refusal
rows_cleared n path object rows = if has_under n path object rows.held then with_held rows (Ok (held_without object rows.held)) else rows_after n path (Remove object) rows

-- the rows once the object is gone, held or a version, which has to be there
abbrev pub rows_without : ℕ → Rows → Result Rows Refusal
rows_without object rows =
    if has_row object rows.held then with_held rows (Ok (held_without object rows.held)) else with_filespaces rows (filespaces_cleared object (lookup (at_number object) (listed rows.filespaces)) rows.filespaces)

-- the object, wherever it is kept, has these copies
abbrev pub rows_copied : ℕ → List CopyRow → Rows → Rows
rows_copied object copies rows = record { nodes = rows.nodes; filespaces = filespaces_copied object copies rows.filespaces; held = held_copied object copies rows.held }

-- the rows after a change of the copies of an object, which has to be there
abbrev pub rows_altered : ℕ → CopyChange → Rows → Result Rows Refusal
rows_altered object change rows =
    if_found (version_of object (kept_of rows)) (λ v. on_ok (λ copies. rows_copied object copies rows) (copies_after change v.copies))

-- the filespace in which the object is kept, as a version or held
abbrev pub filespace_of_kept : ℕ → Rows → Option ℕ
filespace_of_kept object rows = option_or (filespace_with object rows.filespaces) (option_map (λ row. row.filespace) (held_at object rows.held))

-- after a version was put in front of those of a path, its undoing with the class that the path's group had, and whether it had
-- an active version, gives back the rows as they were
abbrev pub UndoGivesBack : ℕ → List ℕ → Rows → Rows → Type 0
UndoGivesBack n path old new = (class : List ℕ) (active : Bool) → WasSo class active (group_at n path old.filespaces) → rows_after n path (Undo class active) new ≡ Ok old

-- the newest of the versions is of this object; none where there is no version
abbrev pub NewestIs : Option ℕ → List Version → Type 0
NewestIs None versions = versions ≡ []
NewestIs (Some object) versions = (newest : Version) × (older : List Version) × (versions ≡ newest ∷ older) × (newest.object ≡ object)

-- what holds of all rows that are kept: no two nodes have one name, nor do two filespaces of one node, no two of the versions and held
-- objects are of one number, each group has a version, and each held object stands under its number
pub record IsSound (rows : Rows) : Type 0 where
  pub names : AreDistinct (slice_cmp nat_cmp) (named rows.nodes)
  pub spaces : (node : ℕ) → AreDistinct (slice_cmp nat_cmp) (named_of node rows.filespaces)
  pub objects : are_distinct (kept_of rows) ≡ true
  pub full : are_all_full rows.filespaces ≡ true
  pub held : are_held_rows rows.held ≡ true

-- the rows, where they are sound, and none where they aren't
abbrev pub IsMadeOf : Rows → Option Rows → Type 0
IsMadeOf rows None = IsSound rows → ⊥
IsMadeOf rows (Some made) = (made ≡ rows) × IsSound rows
