-- What is left of a database on a day where copies of its objects were lost.
use Rattle.std.specs.Prelude.{ℕ, ◌+◌, ◌==◌, max, Bool, false, not, List, [], ◌∷◌, map, filter}
use Rattle.std.specs.List.{flat_map, list_any}
use Rattle.std.specs.Map.{lookup}
use Rattle.std.specs.Option.{option_map_or}
use Rattle.inventory_rows.specs.version_groups.declared.copies.CopyRow.{CopyRow}
use Rattle.inventory_rows.specs.version_groups.declared.group.Group.{Group}
use Rattle.inventory_rows.specs.version_groups.declared.groups.Filespace.{Filespace}
use Rattle.inventory_rows.specs.version_groups.declared.versions.Version.{Version}
use Rattle.inventory_rows.specs.version_groups.Entries.{is_nil}
use Rattle.inventory_rows.specs.version_groups.Versions.{is_empty}
use Rattle.inventory_rows.specs.object_rows.declared.held_object.HeldRow.{HeldRow}
use Rattle.inventory_rows.specs.object_rows.Filespaces.{at_number}
use Rattle.inventory_rows.specs.object_rows.Rows.{Rows}
use Rattle.inventory_rows.specs.pool_rows.PoolRows.{PoolRows}
use Rattle.inventory_rows.specs.Search.{versions}
use Rattle.inventory_rows.specs.State.{Inv}
use Rattle.inventory_effects.specs.Volumes.{taken}

-- Which copies are lost: for each of some objects, the pools of those that are.
abbrev pub Losses : Type 0
Losses = List (ℕ × List ℕ)

-- the object's copy in the pool is lost
abbrev pub is_lost : Losses → ℕ → ℕ → Bool
is_lost losses object pool = option_map_or (λ pools. list_any (λ p. p == pool) pools) (lookup (at_number object) losses) false

-- ---- what is left of objects

-- a version with those of its copies that aren't lost
abbrev pub version_left : Losses → Version → Version
version_left losses w = record w { copies = filter (λ c. not (is_lost losses w.object c.pool)) w.copies }

-- it has a copy
abbrev pub has_copies : Version → Bool
has_copies w = not (is_nil w.copies)

-- Of versions, those that have a copy left, with the copies that they have left. Each keeps the day from which it is inactive; so a path whose active version is lost has no active version.
abbrev pub versions_left : Losses → List Version → List Version
versions_left losses versions = filter has_copies (map (version_left losses) versions)

-- a path's group with the versions that are left
abbrev pub group_left : Losses → List ℕ × Group → List ℕ × Group
group_left losses g = (g.0, record g.1 { versions = versions_left losses g.1.versions })

-- it has a version
abbrev pub has_versions : List ℕ × Group → Bool
has_versions g = not (is_empty g.1.versions)

-- the groups that have a version left
abbrev pub groups_left : Losses → List (List ℕ × Group) → List (List ℕ × Group)
groups_left losses groups = filter has_versions (map (group_left losses) groups)

-- a filespace with what is left in it; it stays though it be empty
abbrev pub filespace_left : Losses → ℕ × Filespace → ℕ × Filespace
filespace_left losses f = (f.0, record f.1 { groups = groups_left losses f.1.groups })

-- a held object with the copies that are left
abbrev pub held_left : Losses → ℕ × HeldRow → ℕ × HeldRow
held_left losses h = (h.0, record h.1 { held = record (h.1.held) { version = version_left losses h.1.held.version } })

-- it has a copy
abbrev pub is_held : ℕ × HeldRow → Bool
is_held h = has_copies h.1.held.version

-- the held objects that have a copy left
abbrev pub helds_left : Losses → List (ℕ × HeldRow) → List (ℕ × HeldRow)
helds_left losses held = filter is_held (map (held_left losses) held)

-- the nodes, the filespaces with what is left in them, and the held objects that have a copy left
abbrev pub rows_left : Losses → Rows → Rows
rows_left losses rows = record {
  nodes = rows.nodes;
  filespaces = map (filespace_left losses) rows.filespaces;
  held = helds_left losses rows.held;
}

-- ---- what is left on volumes

-- of an object's copies those that are lost, each with the object
abbrev pub lost_of_copies : Losses → ℕ → List CopyRow → List (ℕ × CopyRow)
lost_of_copies losses object copies = filter (λ e. is_lost losses e.0 e.1.pool) (map (λ c. (object, c)) copies)

-- the same of versions
abbrev pub lost_of : Losses → List Version → List (ℕ × CopyRow)
lost_of losses versions = flat_map (λ w. lost_of_copies losses w.object w.copies) versions

-- the same of the versions of groups
abbrev pub lost_of_groups : Losses → List (List ℕ × Group) → List (ℕ × CopyRow)
lost_of_groups losses groups = flat_map (λ g. lost_of losses g.1.versions) groups

-- The segments of copies go from their volumes on a day. A sequential volume from which the last one goes is emptied on that day.
abbrev pub all_gone : List (ℕ × CopyRow) → (day : ℕ) → PoolRows → PoolRows
all_gone [] day s = s
all_gone (e ∷ copies) day s = all_gone copies day (taken e.0 e.1.segments day s)

-- ---- counting

-- the copies of some versions, each with its object
abbrev pub copies_in : List Version → List (ℕ × CopyRow)
copies_in versions = flat_map (λ w. map (λ c. (w.object, c)) w.copies) versions

-- ---- the database

-- The database that is restored on a day from the backup in a file, where these copies are lost. Objects without a copy go. No database backup is listed, and the next file number lies behind that of the
-- backup's file. All else stays, the number of the last transaction with it.
unfoldable pub restored : Losses → (file day : ℕ) → Inv → Inv
restored losses file day v = record v {
  today = day;
  next_file = max v.next_file (file + 1);
  clients = rows_left losses v.clients;
  stores = all_gone (lost_of losses (versions v)) day v.stores;
  backups = [];
}
