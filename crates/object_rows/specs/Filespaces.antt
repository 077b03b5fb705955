-- Filespaces by number, each with its versions, and what is done with the versions of one path or of one object.
use Rattle.std.specs.Prelude.{ℕ, Bool, List, [], map, Option, Some, None, Result, Ok}
use Rattle.std.specs.BTreeMap.{is_at}
use Rattle.std.specs.List.{flat_map}
use Rattle.std.specs.Map.{lookup}
use Rattle.std.specs.Ordering.{nat_cmp}
use Rattle.version_groups.specs.kinds.declared.refusal.Refusal.{Refusal}
use Rattle.version_groups.specs.declared.copies.CopyChange.{CopyChange}
use Rattle.version_groups.specs.declared.copies.CopyRow.{CopyRow}
use Rattle.version_groups.specs.declared.group.Group.{Group}
use Rattle.version_groups.specs.declared.group.GroupChange.{GroupChange}
use Rattle.version_groups.specs.declared.groups.Filespace.{Filespace}
use Rattle.version_groups.specs.declared.versions.Version.{Version}
use Rattle.version_groups.specs.Copies.{copies_after}
use Rattle.version_groups.specs.Entries.{on_ok, if_found, changed_at}
use Rattle.version_groups.specs.Groups as group
use Rattle.version_groups.specs.Versions.{version_of, with_copies}

-- a key that is this number
abbrev pub at_number : ℕ → ℕ → Bool
at_number n = is_at (nat_cmp n)

-- the filespace with this number
abbrev pub filespace_at : ℕ → List (ℕ × Filespace) → Option Filespace
filespace_at n filespaces = lookup (at_number n) filespaces

abbrev pub groups_in : Option Filespace → List (List ℕ × Group)
groups_in None = []
groups_in (Some filespace) = filespace.groups

-- the group of a path of a filespace
abbrev pub group_at : ℕ → List ℕ → List (ℕ × Filespace) → Option Group
group_at n path filespaces = group.group_at path (groups_in (filespace_at n filespaces))

-- the versions of a path of a filespace, newest first; none where the path has no group
abbrev pub versions_at : ℕ → List ℕ → List (ℕ × Filespace) → List Version
versions_at n path filespaces = group.versions_at path (groups_in (filespace_at n filespaces))

-- the versions of some groups, path by path
abbrev pub versions_in : List (List ℕ × Group) → List Version
versions_in groups = flat_map (λ g. g.1.versions) groups

-- all versions that are kept: filespace by filespace, path by path, those of a path newest first
abbrev pub versions_of : List (ℕ × Filespace) → List Version
versions_of filespaces = flat_map (λ f. versions_in f.1.groups) filespaces

-- a filespace after a change of its groups
abbrev pub filespace_after : (List (List ℕ × Group) → Result (List (List ℕ × Group)) Refusal) → Filespace → Result Filespace Refusal
filespace_after change filespace = on_ok (λ groups. record filespace { groups = groups }) (change filespace.groups)

-- the filespaces after a change of the groups of one, which has to be there
abbrev pub in_filespace : ℕ → (List (List ℕ × Group) → Result (List (List ℕ × Group)) Refusal) → List (ℕ × Filespace) → Result (List (ℕ × Filespace)) Refusal
in_filespace n change filespaces = changed_at (at_number n) (filespace_after change) filespaces

-- the filespaces once a new version is the newest of a path of one
abbrev pub filespaces_with : ℕ → List ℕ → List ℕ → Version → List (ℕ × Filespace) → Result (List (ℕ × Filespace)) Refusal
filespaces_with n path class version filespaces = in_filespace n (λ groups. Ok (group.groups_with path class version groups)) filespaces

-- the filespaces after a change of the group of a path of one
abbrev pub filespaces_after : ℕ → List ℕ → GroupChange → List (ℕ × Filespace) → Result (List (ℕ × Filespace)) Refusal
filespaces_after n path change filespaces = in_filespace n (group.groups_after path change) filespaces

-- the filespaces after a change of the copies of an object of a path of one
abbrev pub filespaces_altered_at : ℕ → List ℕ → ℕ → CopyChange → List (ℕ × Filespace) → Result (List (ℕ × Filespace)) Refusal
filespaces_altered_at n path object change filespaces = in_filespace n (group.groups_altered path object change) filespaces

-- the object's version, wherever it stands, has these copies
abbrev pub group_copied : ℕ → List CopyRow → Group → Group
group_copied object copies g = record g { versions = with_copies object copies g.versions }

abbrev pub groups_copied : ℕ → List CopyRow → List (List ℕ × Group) → List (List ℕ × Group)
groups_copied object copies groups = map (λ g. (g.0, group_copied object copies g.1)) groups

abbrev pub filespace_copied : ℕ → List CopyRow → Filespace → Filespace
filespace_copied object copies f = record f { groups = groups_copied object copies f.groups }

abbrev pub filespaces_copied : ℕ → List CopyRow → List (ℕ × Filespace) → List (ℕ × Filespace)
filespaces_copied object copies filespaces = map (λ f. (f.0, filespace_copied object copies f.1)) filespaces

-- the filespaces after a change of the copies of the object's version, which has to be there
abbrev pub filespaces_altered : ℕ → CopyChange → List (ℕ × Filespace) → Result (List (ℕ × Filespace)) Refusal
filespaces_altered object change filespaces =
    if_found (version_of object (versions_of filespaces)) (λ v. on_ok (λ copies. filespaces_copied object copies filespaces) (copies_after change v.copies))
