-- How many items the nodes and filespaces have, and what is left of the room for them.
use Rattle.std.specs.Prelude.{ℕ, ◌+◌, ◌-◌, nat_le, List, length, Option, Some, None, if◌then◌else◌}
use Rattle.std.specs.List.{sum_by}
use Rattle.version_groups.specs.declared.copies.CopyRow.{CopyRow}
use Rattle.version_groups.specs.declared.group.Group.{Group}
use Rattle.version_groups.specs.declared.groups.Filespace.{Filespace}
use Rattle.version_groups.specs.declared.versions.Version.{Version}
use Rattle.object_rows.specs.declared.held_object.HeldRow.{HeldRow}
use Rattle.object_rows.specs.HeldRows.{weigh_held}
use Rattle.object_rows.specs.Rows.{Rows}

-- the copies of a version, and their segments
abbrev pub items_of_version : Version → ℕ
items_of_version version = length version.copies + sum_by (λ c. length c.segments) version.copies

-- the versions of a group, and what they have
abbrev pub items_of_group : Group → ℕ
items_of_group group = length group.versions + sum_by items_of_version group.versions

-- the groups of a filespace, and what they have
abbrev pub items_of_filespace : Filespace → ℕ
items_of_filespace f = length f.groups + sum_by (λ g. items_of_group g.1) f.groups

-- what the filespaces have
abbrev pub items_of_filespaces : List (ℕ × Filespace) → ℕ
items_of_filespaces filespaces = sum_by (λ f. items_of_filespace f.1) filespaces

-- an object with its copies and their segments
abbrev pub items_with : List CopyRow → ℕ
items_with copies = 1 + (length copies + sum_by (λ c. length c.segments) copies)

-- the held objects, each with its copies and their segments
abbrev pub items_of_held : List (ℕ × HeldRow) → ℕ
items_of_held held = weigh_held items_with held

-- the nodes, the filespaces and what these have: groups, versions, copies and segments; and the held objects with theirs
abbrev pub items_of_rows : Rows → ℕ
items_of_rows rows = length rows.nodes + (length rows.filespaces + items_of_filespaces rows.filespaces) + items_of_held rows.held

-- what is left of the room once so many things are in it; none where they have no room
abbrev pub left : ℕ → ℕ → Option ℕ
left count room = if nat_le count room then Some (room - count) else None
