-- The copies of all that is kept, and the pools in which they lie.
use Rattle.std.specs.Prelude.{ℕ, Bool, ◌==◌, List, map}
use Rattle.std.specs.List.{flat_map, list_any}
use Rattle.version_groups.specs.declared.copies.CopyRow.{CopyRow}
use Rattle.version_groups.specs.declared.group.Group.{Group}
use Rattle.version_groups.specs.declared.groups.Filespace.{Filespace}
use Rattle.version_groups.specs.declared.versions.Version.{Version}
use Rattle.version_groups.specs.Copies.{has_copy}
use Rattle.object_rows.specs.declared.held_object.HeldRow.{HeldRow}
use Rattle.object_rows.specs.Rows.{Rows, kept_of}

-- the copies of all that is kept, each with its object
abbrev pub copies_in : Rows → List (ℕ × CopyRow)
copies_in rows = flat_map (λ version. map (λ c. (version.object, c)) version.copies) (kept_of rows)

-- a copy lies in the pool
abbrev pub holds_copy : ℕ → Rows → Bool
holds_copy pool rows = list_any (λ e. e.1.pool == pool) (copies_in rows)

-- one of the versions has a copy in the pool
abbrev pub versions_hold : ℕ → List Version → Bool
versions_hold pool versions = list_any (λ w. has_copy pool w.copies) versions

-- one of the groups has such a version
abbrev pub groups_hold : ℕ → List (List ℕ × Group) → Bool
groups_hold pool groups = list_any (λ g. versions_hold pool g.1.versions) groups

-- one of the filespaces has such a group
abbrev pub filespaces_hold : ℕ → List (ℕ × Filespace) → Bool
filespaces_hold pool filespaces = list_any (λ f. groups_hold pool f.1.groups) filespaces

-- one of the held objects has a copy in the pool
abbrev pub held_hold : ℕ → List (ℕ × HeldRow) → Bool
held_hold pool held = list_any (λ e. has_copy pool e.1.held.version.copies) held
