-- The copies in a pool or on a volume, and those that a copy pool lacks.
use Rattle.std.specs.Prelude.{ℕ, ◌==◌, ◌&&◌, not, Bool, List, ◌++◌, is_some, Result, Ok, Err, if◌then◌else◌}
use Rattle.std.specs.List.{flat_map}
use Rattle.std.specs.Option.{option_map_or}
use Rattle.kinds.specs.declared.refusal.Refusal.{Refusal}
use Rattle.kinds.specs.declared.refusal.Refusal.TheVariants.{NotFound}
use Rattle.inventory_rows.specs.version_groups.declared.copies.CopyRow.{CopyRow}
use Rattle.inventory_rows.specs.version_groups.declared.group.Group.{Group}
use Rattle.inventory_rows.specs.version_groups.declared.groups.Filespace.{Filespace}
use Rattle.inventory_rows.specs.version_groups.declared.versions.Version.{Version}
use Rattle.inventory_rows.specs.version_groups.Copies.{has_copy}
use Rattle.inventory_rows.specs.object_rows.declared.held_object.HeldRow.{HeldRow}
use Rattle.inventory_rows.specs.object_rows.Filespaces.{filespace_at}
use Rattle.inventory_rows.specs.pool_tables.Rows.{row_at}
use Rattle.inventory_rows.specs.Search.{lies_on, pool}
use Rattle.inventory_rows.specs.State.{Inv}
use Rattle.inventory_work.specs.declared.copies.Where.{Where}
use Rattle.inventory_work.specs.declared.copies.Where.TheVariants.{Pool, Volume}
use Rattle.inventory_work.specs.declared.lines.CopyLine.{CopyLine}
use Rattle.inventory_work.specs.declared.lines.MissingLine.{MissingLine}
use Rattle.inventory_work.specs.ByObject.{by_object}
use Rattle.inventory_work.specs.Lists.{only}

-- the copy lies in the pool, or has a segment on the volume
abbrev pub lies_there : Where → CopyRow → Bool
lies_there (Pool number) copy = copy.pool == number
lies_there (Volume file) copy = lies_on file copy

-- a copy of a version of a file of a node
abbrev pub copy_line : ℕ → Version → CopyRow → CopyLine
copy_line node version copy = record {
  object = version.object;
  size = version.size;
  digest = version.digest;
  stored = version.stored;
  node = node;
  pool = copy.pool;
  placed = copy.placed;
}

-- the copy, where it lies there
abbrev pub copy_lines : Where → ℕ → Version → CopyRow → List CopyLine
copy_lines here node version copy = only (lies_there here copy) (copy_line node version copy)

-- the copies that lie there, of a version, of a path's versions, and of a filespace's
abbrev pub copies_of_version : Where → ℕ → Version → List CopyLine
copies_of_version here node version = flat_map (copy_lines here node version) version.copies

abbrev pub copies_of_group : Where → ℕ → Group → List CopyLine
copies_of_group here node group = flat_map (copies_of_version here node) group.versions

abbrev pub copies_of_filespace : Where → Filespace → List CopyLine
copies_of_filespace here f = flat_map (λ g. copies_of_group here f.node g.1) f.groups

-- those of all filespaces
abbrev pub copies_of_filespaces : Where → List (ℕ × Filespace) → List CopyLine
copies_of_filespaces here filespaces = flat_map (λ f. copies_of_filespace here f.1) filespaces

-- the number of a filespace's node; 0 where the filespace isn't there
abbrev pub node_of : ℕ → List (ℕ × Filespace) → ℕ
node_of filespace filespaces = option_map_or (λ f. f.node) (filespace_at filespace filespaces) 0

-- those of all held objects
abbrev pub copies_of_held : Where → List (ℕ × Filespace) → List (ℕ × HeldRow) → List CopyLine
copies_of_held here filespaces held = flat_map (λ h. copies_of_version here (node_of h.1.filespace filespaces) h.1.held.version) held

abbrev pub copies_found : Where → Inv → List CopyLine
copies_found here v = copies_of_filespaces here v.clients.filespaces ++ copies_of_held here v.clients.filespaces v.clients.held

-- the copies that lie there, in ascending order of their objects
abbrev pub copies_where : Where → Inv → List CopyLine
copies_where here v = by_object (λ line. line.object) (copies_found here v)

-- the pool is there
abbrev pub has_pool : ℕ → Inv → Bool
has_pool number v = is_some (pool number v)

-- the volume is there
abbrev pub has_volume : ℕ → Inv → Bool
has_volume file v = is_some (row_at file v.stores.volumes)

-- the copies in a pool, which has to be there, in ascending order of their objects
abbrev pub on_pool : ℕ → Inv → Result (List CopyLine) Refusal
on_pool number v = if has_pool number v then Ok (copies_where (Pool number) v) else Err NotFound

-- the copies with a segment on a volume, which has to be there, in ascending order of their objects
abbrev pub on_volume : ℕ → Inv → Result (List CopyLine) Refusal
on_volume file v = if has_volume file v then Ok (copies_where (Volume file) v) else Err NotFound

-- a copy lies in the first pool, and none in the second
abbrev pub is_missing : ℕ → ℕ → Version → Bool
is_missing primary copy version = has_copy primary version.copies && not (has_copy copy version.copies)

-- the version, where its copy is missing
abbrev pub missing_lines : ℕ → ℕ → Version → List MissingLine
missing_lines primary copy version = only (is_missing primary copy version) (record { object = version.object; size = version.size })

-- the versions whose copies are missing, of a path, of a filespace, and of all filespaces
abbrev pub missing_of_group : ℕ → ℕ → Group → List MissingLine
missing_of_group primary copy group = flat_map (missing_lines primary copy) group.versions

abbrev pub missing_of_filespace : ℕ → ℕ → Filespace → List MissingLine
missing_of_filespace primary copy f = flat_map (λ g. missing_of_group primary copy g.1) f.groups

abbrev pub missing_of_filespaces : ℕ → ℕ → List (ℕ × Filespace) → List MissingLine
missing_of_filespaces primary copy filespaces = flat_map (λ f. missing_of_filespace primary copy f.1) filespaces

-- the held objects whose copies are missing
abbrev pub missing_of_held : ℕ → ℕ → List (ℕ × HeldRow) → List MissingLine
missing_of_held primary copy held = flat_map (λ h. missing_lines primary copy h.1.held.version) held

abbrev pub missing_found : ℕ → ℕ → Inv → List MissingLine
missing_found primary copy v = missing_of_filespaces primary copy v.clients.filespaces ++ missing_of_held primary copy v.clients.held

-- the objects whose copies are missing, in ascending order of their numbers
abbrev pub missing_in : ℕ → ℕ → Inv → List MissingLine
missing_in primary copy v = by_object (λ line. line.object) (missing_found primary copy v)

-- the objects with a copy in the first pool and none in the second, which both have to be there, in ascending order of their numbers
abbrev pub missing : ℕ → ℕ → Inv → Result (List MissingLine) Refusal
missing primary copy v = if has_pool primary v && has_pool copy v then Ok (missing_in primary copy v) else Err NotFound
