use Rattle.std.specs.Prelude.{◌≡◌, ◌+◌, sum_by, ◌<◌, ⊤, ℕ, Bool, true, false, List, [], ◌∷◌, map, length, Option, Some, None, Result, Ok, Err, if◌then◌else◌}
use Rattle.std.specs.Ordering.{nat_cmp}
use Rattle.std.specs.Cmp.Lexicographic.{slice_cmp}
use Rattle.std.specs.BTreeMap.{is_at, insert_entry}
use Rattle.std.specs.List.Sorted.{IsStrictlySortedBy}
use Rattle.std.specs.Map.{keys_of, values_of, lookup, set_value, remove_entry}
use Rattle.kinds.specs.declared.refusal.Refusal.{Refusal}
use Rattle.kinds.specs.declared.refusal.Refusal.TheVariants.{NotFound}
use Rattle.version_groups.specs.declared.copies.CopyChange.{CopyChange}
use Rattle.version_groups.specs.declared.group.Group.{Group}
use Rattle.version_groups.specs.declared.group.GroupChange.{GroupChange}
use Rattle.version_groups.specs.declared.group.GroupChange.TheVariants.{Gone, Remove, Rebind, Undo}
use Rattle.version_groups.specs.declared.versions.Version.{Version}
use Rattle.version_groups.specs.Entries.{on_ok, if_found, changed_at}
use Rattle.version_groups.specs.Versions.{is_empty, has_object, has_active, retired, superseded, undone, without_object, versions_altered}

-- the versions of a group after a change of the group
abbrev pub versions_after : GroupChange → List Version → List Version
versions_after (Gone object today) versions = retired today versions
versions_after (Remove object) versions = without_object object versions
versions_after (Rebind class) versions = versions
versions_after (Undo class active) versions = undone active versions

-- the class of a group after a change of the group
abbrev pub class_after : GroupChange → List ℕ → List ℕ
class_after (Gone object today) old = old
class_after (Remove object) old = old
class_after (Rebind class) old = class
class_after (Undo class active) old = class

-- the object that a change names, where it names one, has a version among these
abbrev pub names_kept : GroupChange → List Version → Bool
names_kept (Gone object today) versions = has_object object versions
names_kept (Remove object) versions = has_object object versions
names_kept (Rebind class) versions = true
names_kept (Undo class active) versions = true

-- a group after a change; an object that is named has to be there
abbrev pub group_after : GroupChange → Group → Result Group Refusal
group_after change group =
    if names_kept change group.versions then Ok (record { class = class_after change group.class; versions = versions_after change group.versions }) else Err NotFound

-- a path's group once a new version is its newest: it is bound to this class, and the former active version is inactive
-- from the day on which the new one was stored
abbrev pub group_with : List ℕ → Version → Option Group → Group
group_with class version None = record { class = class; versions = version ∷ [] }
group_with class version (Some group) = record { class = class; versions = version ∷ superseded version.stored group.versions }

-- a group after a change of its object's copies
abbrev pub group_altered : ℕ → CopyChange → Group → Result Group Refusal
group_altered object change group = on_ok (λ versions. record group { versions = versions }) (versions_altered object change group.versions)

-- a key that is this path
abbrev pub at_path : List ℕ → List ℕ → Bool
at_path path = is_at (slice_cmp nat_cmp path)

-- the group of a path
abbrev pub group_at : List ℕ → List (List ℕ × Group) → Option Group
group_at path groups = lookup (at_path path) groups

abbrev pub versions_in : Option Group → List Version
versions_in None = []
versions_in (Some group) = group.versions

-- the versions of a path, newest first; none where the path has no group
abbrev pub versions_at : List ℕ → List (List ℕ × Group) → List Version
versions_at path groups = versions_in (group_at path groups)

-- the groups stand in ascending order of their paths, one for each
abbrev pub AreByPath : List (List ℕ × Group) → Type 0
AreByPath groups = IsStrictlySortedBy (slice_cmp nat_cmp) (keys_of groups)

-- the groups, but that of the path where it has no version
abbrev pub without_empty : List ℕ → List (List ℕ × Group) → List (List ℕ × Group)
without_empty path groups = if is_empty (versions_at path groups) then remove_entry (at_path path) groups else groups

-- the groups after a change of the path's group; a group without versions goes
abbrev pub groups_after : List ℕ → GroupChange → List (List ℕ × Group) → Result (List (List ℕ × Group)) Refusal
groups_after path change groups = on_ok (without_empty path) (changed_at (at_path path) (group_after change) groups)

-- the groups once a new version is the path's newest
abbrev pub groups_with : List ℕ → List ℕ → Version → List (List ℕ × Group) → List (List ℕ × Group)
groups_with path class version groups = insert_entry (slice_cmp nat_cmp) groups path (group_with class version (group_at path groups))

-- the groups after a change of the copies of an object of the path
abbrev pub groups_altered : List ℕ → ℕ → CopyChange → List (List ℕ × Group) → Result (List (List ℕ × Group)) Refusal
groups_altered path object change groups = changed_at (at_path path) (group_altered object change) groups

-- a path's group, where it has one, has this class, an active version or none, and one version at least
abbrev pub WasSo : List ℕ → Bool → Option Group → Type 0
WasSo class active None = ⊤
WasSo class active (Some group) = (class ≡ group.class) × (active ≡ has_active group.versions) × (is_empty group.versions ≡ false)

-- how many versions the groups have
abbrev pub count_of : List (List ℕ × Group) → ℕ
count_of groups = sum_by (λ g. length g.versions) (values_of groups)

-- the path has these versions, and each other path has those that it had
abbrev pub VersionsBecome : List ℕ → List Version → List (List ℕ × Group) → List (List ℕ × Group) → Type 0
VersionsBecome path versions old new = (q : List ℕ) → versions_at q new ≡ (if at_path path q then versions else versions_at q old)

-- each path has versions of the objects that it had
abbrev pub ObjectsStay : List (List ℕ × Group) → List (List ℕ × Group) → Type 0
ObjectsStay old new = (q : List ℕ) (object : ℕ) → has_object object (versions_at q new) ≡ has_object object (versions_at q old)

-- how many versions a change takes away
abbrev pub taken : GroupChange → List Version → ℕ
taken (Gone object today) versions = 0
taken (Remove object) versions = 1
taken (Rebind class) versions = 0
taken (Undo class active) [] = 0
taken (Undo class active) (v ∷ versions) = 1

-- so many it takes away
abbrev pub TakesAway : GroupChange → List Version → Type 0
TakesAway change versions = length (versions_after change versions) + taken change versions ≡ length versions

-- after a version was put into the groups, its undoing with the class that the path's group had, and whether it had an active
-- version, gives back the groups as they were
abbrev pub UndoGivesBack : List ℕ → List (List ℕ × Group) → List (List ℕ × Group) → Type 0
UndoGivesBack path old new = (class : List ℕ) (active : Bool) → WasSo class active (group_at path old) → groups_after path (Undo class active) new ≡ Ok old
