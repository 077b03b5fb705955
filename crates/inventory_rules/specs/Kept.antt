-- The objects that a client may still ask for, as a fold that knows no pool, volume, segment or copy.
use Rattle.std.specs.Prelude.{ℕ, ◌+◌, List, [], ◌∷◌, map, None}
use Rattle.kinds.specs.declared.change.DefineOrDelete.TheVariants as two
use Rattle.kinds.specs.declared.change.ObjectChange.{ObjectChange}
use Rattle.kinds.specs.declared.change.ObjectChange.TheVariants as client
use Rattle.kinds.specs.declared.segment.Digest.{Digest}
use Rattle.entries.specs.change_items.declared.items.DiscardedVersion.{DiscardedVersion}
use Rattle.entries.specs.change_items.declared.items.NamedVersion.{NamedVersion}
use Rattle.entries.specs.change_items.declared.items.NewHeldObject.{NewHeldObject}
use Rattle.entries.specs.change_items.declared.items.NewVersion.{NewVersion}
use Rattle.entries.specs.change_items.declared.items.Rebinding.{Rebinding}
use Rattle.entries.specs.declared.change.Change.{Change}
use Rattle.entries.specs.declared.change.Change.TheVariants as change
use Rattle.inventory_rows.specs.policy_domains.Changes as policy
use Rattle.inventory_rows.specs.policy_domains.Rows.{DomainRow}
use Rattle.inventory_rows.specs.version_groups.declared.group.Group.{Group}
use Rattle.inventory_rows.specs.version_groups.declared.group.GroupChange.{GroupChange}
use Rattle.inventory_rows.specs.version_groups.declared.group.GroupChange.TheVariants as group
use Rattle.inventory_rows.specs.version_groups.declared.groups.Filespace.{Filespace}
use Rattle.inventory_rows.specs.version_groups.declared.versions.Version.{Version}
use Rattle.inventory_rows.specs.object_rows.declared.held_object.HeldObject.{HeldObject}
use Rattle.inventory_rows.specs.object_rows.declared.held_object.HeldRow.{HeldRow}
use Rattle.inventory_rows.specs.object_rows.Changes.{rows_changed}
use Rattle.inventory_rows.specs.object_rows.Filespaces.{filespaces_with, filespaces_after}
use Rattle.inventory_rows.specs.object_rows.HeldRows.{held_with}
use Rattle.inventory_rows.specs.object_rows.Rows.{Rows, rows_cleared, rows_without}
use Rattle.inventory_rows.specs.State.{Inv}
use Rattle.inventory_rules.specs.Common.{or_same}

-- The policy, the day, and the nodes and filespaces with their versions and held objects. Of an object stand its number, size, time and digest, the day
-- on which it was stored, and the one since which it is inactive, or until which it is held: none has a copy here.
pub record Kept : Type 0 where
  pub today : ℕ
  pub next_node : ℕ
  pub domains : List (List ℕ × DomainRow)
  pub clients : Rows

-- ---- what a database keeps

abbrev pub without_copies : Version → Version
without_copies w = record w { copies = [] }

abbrev pub bare_group : Group → Group
bare_group g = record g { versions = map without_copies g.versions }

abbrev pub bare_filespace : Filespace → Filespace
bare_filespace f = record f { groups = map (λ g. (g.0, bare_group g.1)) f.groups }

abbrev pub bare : List (ℕ × Filespace) → List (ℕ × Filespace)
bare filespaces = map (λ f. (f.0, bare_filespace f.1)) filespaces

abbrev pub bare_row : HeldRow → HeldRow
bare_row row = record row { held = record (row.held) { version = without_copies row.held.version } }

abbrev pub bare_held : List (ℕ × HeldRow) → List (ℕ × HeldRow)
bare_held held = map (λ h. (h.0, bare_row h.1)) held

abbrev pub bare_rows : Rows → Rows
bare_rows rows = record { nodes = rows.nodes; filespaces = bare rows.filespaces; held = bare_held rows.held }

abbrev pub kept : Inv → Kept
kept v = record { today = v.today; next_node = v.next_node; domains = v.domains; clients = bare_rows v.clients }

-- ---- what a transaction makes of it

abbrev pub each : {X : Type 0} → (X → Kept → Kept) → List X → Kept → Kept
each step [] k = k
each step (x ∷ xs) k = each step xs (step x k)

abbrev pub with_filespaces : List (ℕ × Filespace) → Kept → Kept
with_filespaces filespaces k = record k { clients = record k.clients { filespaces = filespaces } }

-- a new object, stored today
abbrev pub new_object : ℕ → ℕ → ℕ → ℕ → Digest → Version
new_object today object size mtime digest = record {
  object = object;
  size = size;
  mtime = mtime;
  digest = digest;
  stored = today;
  since = None;
  copies = [];
}

-- a client's file
abbrev pub new_version : ℕ → NewVersion → Version
new_version today item = new_object today item.object item.size item.mtime item.digest

-- it becomes the newest version of its path, and the path is bound to its class
abbrev pub back_up : ℕ → NewVersion → Kept → Kept
back_up filespace item k =
    with_filespaces (or_same k.clients.filespaces (filespaces_with filespace item.path item.class (new_version k.today item) k.clients.filespaces)) k

-- an object that a client archived
abbrev pub new_held : ℕ → NewHeldObject → HeldObject
new_held today item = record {
  path = item.path;
  description = item.description;
  version = new_object today item.object item.size item.mtime item.digest;
  until = item.until;
}

-- it is held from now on
abbrev pub hold : ℕ → NewHeldObject → Kept → Kept
hold filespace item k =
    record k { clients = record k.clients { held = held_with filespace (new_held k.today item) k.clients.held } }

-- the versions of a path change
abbrev pub change_group : ℕ → List ℕ → GroupChange → Kept → Kept
change_group filespace path step k = with_filespaces (or_same k.clients.filespaces (filespaces_after filespace path step k.clients.filespaces)) k

abbrev pub rebind : ℕ → Rebinding → Kept → Kept
rebind filespace item k = change_group filespace item.path (group.Rebind item.class) k

abbrev pub mark_gone : ℕ → NamedVersion → Kept → Kept
mark_gone filespace item k = change_group filespace item.path (group.Gone item.object k.today) k

-- an object that is kept under a path goes
abbrev pub expire : ℕ → NamedVersion → Kept → Kept
expire filespace item k = record k { clients = or_same k.clients (rows_cleared filespace item.path item.object k.clients) }

-- an object goes, wherever it is kept
abbrev pub discard : DiscardedVersion → Kept → Kept
discard item k = record k { clients = or_same k.clients (rows_without item.object k.clients) }

abbrev pub drawn : ObjectChange → ℕ → ℕ
drawn (client.Node two.Define name domain) next = next + 1
drawn (client.Node two.Delete name domain) next = next
drawn (client.Filespace v1 node name filespace) next = next

abbrev pub client_changed : ObjectChange → Kept → Kept
client_changed c k = record k { next_node = drawn c k.next_node; clients = or_same k.clients (rows_changed c k.next_node k.clients) }

-- What a transaction makes of what is kept. Moves, copies, copies that are dropped, pools, volumes, their reuse and database backups change nothing.
unfoldable pub kept_after : Change → Kept → Kept
kept_after (change.Day day) k = record k { today = day }
kept_after (change.Policy c) k = record k { domains = or_same k.domains (policy.after c k.domains) }
kept_after (change.Object c) k = client_changed c k
kept_after (change.Pool c) k = k
kept_after (change.Backup c) k = each (back_up c.filespace) c.items k
kept_after (change.Hold c) k = each (hold c.filespace) c.items k
kept_after (change.Rebind c) k = each (rebind c.filespace) c.items k
kept_after (change.Gone c) k = each (mark_gone c.filespace) c.items k
kept_after (change.Move c) k = k
kept_after (change.Copy c) k = k
kept_after (change.DropCopies c) k = k
kept_after (change.Expire c) k = each (expire c.filespace) c.items k
kept_after (change.Discard c) k = each discard c.items k
kept_after (change.Reuse file) k = k
kept_after (change.DbBegin file after) k = k
kept_after (change.DbEnd file) k = k
kept_after (change.DbDelete file) k = k
