-- Transactions that bring versions or held objects, bind paths to classes, or take objects away. Each item is judged on the database before the transaction.
use Rattle.std.specs.Bool.{OnTrue}
use Rattle.std.specs.List.{flat_map, list_all, list_any, AllByRecursion}
use Rattle.std.specs.Prelude.{ℕ, Option, Some, None, Bool, not, ◌==◌, List, is_some, ◌+◌, nat_le, ◌++◌, length, map, ◌^◌, max, nat_lt, if◌then◌else◌, [], ◌∷◌, true, ◌&&◌, false, ◌||◌, ◌≡◌, ◌<◌, IsTrue}
use Rattle.kinds.specs.Refusals.{unless, bad_value}
use Rattle.kinds.specs.declared.refusal.By.TheVariants as by
use Rattle.kinds.specs.declared.refusal.Refusal.{Refusal}
use Rattle.kinds.specs.declared.refusal.Refusal.TheVariants as refusal
use Rattle.kinds.specs.declared.segment.Digest.{Digest}
use Rattle.kinds.specs.declared.segment.Segment.{Segment}
use Rattle.entries.specs.change_items.declared.items.DiscardedVersion.{DiscardedVersion}
use Rattle.entries.specs.change_items.declared.items.NamedVersion.{NamedVersion}
use Rattle.entries.specs.change_items.declared.items.NewHeldObject.{NewHeldObject}
use Rattle.entries.specs.change_items.declared.items.NewVersion.{NewVersion}
use Rattle.entries.specs.change_items.declared.items.Rebinding.{Rebinding}
use Rattle.entries.specs.change_items.declared.reasons.DiscardReason.{DiscardReason}
use Rattle.entries.specs.change_items.declared.reasons.DiscardReason.TheVariants as because
use Rattle.kinds.specs.Names.{is_same_name}
use Rattle.inventory_rows.specs.version_groups.Entries.{all_later}
use Rattle.inventory_rows.specs.version_groups.Groups.{AreByPath}
use Rattle.inventory_rows.specs.version_groups.Versions.{is_active, has_object}
use Rattle.inventory_rows.specs.version_groups.declared.copies.CopyRow.{CopyRow}
use Rattle.inventory_rows.specs.version_groups.declared.group.GroupChange.{GroupChange}
use Rattle.inventory_rows.specs.version_groups.declared.group.GroupChange.TheVariants as group
use Rattle.inventory_rows.specs.version_groups.declared.groups.Filespace.{Filespace}
use Rattle.inventory_rows.specs.version_groups.declared.versions.Version.{Version}
use Rattle.inventory_rows.specs.object_rows.declared.held_object.HeldObject.{HeldObject}
use Rattle.inventory_rows.specs.object_rows.Filespaces.{filespace_at, versions_at, filespaces_with, filespaces_after}
use Rattle.inventory_rows.specs.object_rows.HeldRows.{has_under, held_with}
use Rattle.inventory_rows.specs.object_rows.Rows.{IsNew, most_kept, rows_cleared, rows_without}
use Rattle.inventory_rows.specs.Search.{versions, group, version, lies_on, is_primary, filespace_of}
use Rattle.inventory_rows.specs.State.{Inv}
use Rattle.inventory_rules.specs.Common.{this, or_same, with_filespaces, with_clients, CanEach}
use Rattle.inventory_rules.specs.Journal.{Journal}
use Rattle.inventory_rules.specs.Owed.{is_retained}
use Rattle.inventory_rules.specs.Segments.{put, take_all, copy_fits, CanPut, put_step}

-- ---- what isn't as it was named

-- a version isn't there: this transaction removed it, or none of this run did
abbrev pub gone_or_unknown : Option ℕ → Refusal
gone_or_unknown (Some n) = refusal.Gone n
gone_or_unknown None = refusal.NotFound

-- a version is not as it was named: it was removed, or this transaction changed it, or it was never so
abbrev pub stale_version : Option ℕ → Option ℕ → Refusal
stale_version (Some n) changed = refusal.Gone n
stale_version None (Some n) = refusal.Stale n
stale_version None None = refusal.NotFound

-- ---- lists

-- no object is named twice
abbrev pub name_once : List ℕ → Bool
name_once objects = all_later (λ a b. not (a == b)) objects

-- no path is named twice
abbrev pub paths_once : List (List ℕ) → Bool
paths_once paths = all_later (λ a b. not (is_same_name a b)) paths

-- ---- refused

abbrev pub filespace_there : ℕ → Inv → List Refusal
filespace_there filespace v = unless (is_some (filespace_at filespace v.clients.filespaces)) refusal.NotFound

-- a new object has a number from 1 on that no object has
abbrev pub is_new_object : Inv → ℕ → Bool
is_new_object v object = nat_le 1 object && not (has_object object (versions v))

-- the number of a new object is new, and the next number behind it is below its bound
abbrev pub object_refused : Inv → ℕ → List Refusal
object_refused v object = unless (is_new_object v object) bad_value ++ unless (nat_lt (max v.next_object (object + 1)) (2 ^ 62)) refusal.InventoryFull

-- new objects, by their numbers: none is named twice, and there is room for them
abbrev pub arrivals_refused : List ℕ → Inv → List Refusal
arrivals_refused objects v =
    unless (name_once objects) bad_value ++ unless (nat_le (length (versions v) + length objects) most_kept) refusal.InventoryFull

abbrev pub objects_refused : List ℕ → Inv → List Refusal
objects_refused objects v = flat_map (object_refused v) objects

-- new objects of a filespace, which has to be there
abbrev pub new_refused : ℕ → List ℕ → Inv → List Refusal
new_refused filespace objects v = filespace_there filespace v ++ arrivals_refused objects v

-- a path that is bound to a class has a group
abbrev pub rebinding_refused : Journal → ℕ → Inv → Rebinding → List Refusal
rebinding_refused j filespace v item = unless (is_some (group filespace item.path v)) (gone_or_unknown (j.path_emptied filespace item.path))

abbrev pub rebind_refused : Journal → ℕ → List Rebinding → Inv → List Refusal
rebind_refused j filespace items v =
    unless (paths_once (map (λ i. i.path) items)) bad_value ++ flat_map (rebinding_refused j filespace v) items

-- an object that is gone is the active version of its path
abbrev pub named_gone_refused : Journal → ℕ → Inv → NamedVersion → List Refusal
named_gone_refused j filespace v item =
    unless (is_active item.object (versions_at filespace item.path v.clients.filespaces)) (stale_version (j.removed item.object) (j.changed item.object))

abbrev pub gone_refused : Journal → ℕ → List NamedVersion → Inv → List Refusal
gone_refused j filespace items v =
    unless (name_once (map (λ i. i.object) items)) bad_value ++ flat_map (named_gone_refused j filespace v) items

-- an object is kept under a path of a filespace: it is one of the path's versions, or held there
abbrev pub is_under : ℕ → List ℕ → ℕ → Inv → Bool
is_under filespace path object v =
    has_under filespace path object v.clients.held || has_object object (versions_at filespace path v.clients.filespaces)

-- an object that expires is one of the path's, and isn't retained today
abbrev pub expired_refused : Journal → ℕ → Inv → NamedVersion → List Refusal
expired_refused j filespace v item =
    if is_under filespace item.path item.object v
    then unless (not (is_retained filespace item.path item.object v)) (refusal.InUse (by.Object item.object))
    else gone_or_unknown (j.removed item.object) ∷ []

abbrev pub expire_refused : Journal → ℕ → List NamedVersion → Inv → List Refusal
expire_refused j filespace items v =
    unless (name_once (map (λ i. i.object) items)) bad_value ++ flat_map (expired_refused j filespace v) items

-- of a version that has to be there
abbrev pub of_version : Journal → ℕ → (Version → List Refusal) → Option Version → List Refusal
of_version j object rule None = gone_or_unknown (j.removed object) ∷ []
of_version j object rule (Some version) = rule version

-- each copy of a version has a segment on the volume
abbrev pub all_lie_on : ℕ → Version → Bool
all_lie_on file version = list_all (lies_on file) version.copies

-- the version's copy in a primary pool has a segment on the volume
abbrev pub primary_lies_on : ℕ → Version → Inv → Bool
primary_lies_on file version v = list_any (λ c. is_primary c.pool v && lies_on file c) version.copies

abbrev pub in_use : ℕ → Refusal
in_use object = refusal.InUse (by.Object object)

abbrev pub is_in : ℕ → Option ℕ → Bool
is_in filespace None = false
is_in filespace (Some number) = number == filespace

-- an object goes: each copy lies on a volume whose audit found other bytes; or its primary copy, or each of its copies, lies on a volume that is
-- deleted; or its filespace is deleted
abbrev pub discard_reason_refused : DiscardReason → ℕ → Digest → Version → Inv → List Refusal
discard_reason_refused (because.Audit file) object found version v = unless (all_lie_on file version) (in_use object) ++ unless (not (is_same_name version.digest.0 found.0)) bad_value
discard_reason_refused (because.Volume file) object found version v = unless (primary_lies_on file version v || all_lie_on file version) (in_use object)
discard_reason_refused (because.Filespace filespace) object found version v = unless (is_in filespace (filespace_of object v)) refusal.NotFound

abbrev pub discarded_refused : Journal → DiscardReason → Inv → DiscardedVersion → List Refusal
discarded_refused j reason v item = of_version j item.object (λ w. discard_reason_refused reason item.object item.found w v) (version item.object v)

abbrev pub discard_refused : Journal → DiscardReason → List DiscardedVersion → Inv → List Refusal
discard_refused j reason items v = unless (name_once (map (λ i. i.object) items)) bad_value ++ flat_map (discarded_refused j reason v) items

-- ---- effect

-- what is kept of a new object, stored today, with one copy
abbrev pub new_object : Inv → ℕ → ℕ → ℕ → Digest → ℕ → List Segment → Version
new_object v object size mtime digest pool segments = record {
  object = object;
  size = size;
  mtime = mtime;
  digest = digest;
  stored = v.today;
  since = None;
  copies = record { pool = pool; placed = this v; segments = segments } ∷ [];
}

-- the next object number lies behind a number that was drawn
abbrev pub after_object : ℕ → Inv → ℕ
after_object object v = max v.next_object (object + 1)

-- a client's file
abbrev pub new_version : Inv → NewVersion → Version
new_version v item = new_object v item.object item.size item.mtime item.digest item.pool item.segments

-- it becomes the newest version of its path
abbrev pub inserted : ℕ → NewVersion → Inv → Inv
inserted filespace item v =
    record (with_filespaces (or_same v.clients.filespaces (filespaces_with filespace item.path item.class (new_version v item) v.clients.filespaces)) v) { next_object = after_object item.object v }

abbrev pub back_up : ℕ → NewVersion → Inv → Inv
back_up filespace item v = put item.object item.segments (inserted filespace item v)

-- an object that a client archived
abbrev pub new_held : Inv → NewHeldObject → HeldObject
new_held v item = record {
  path = item.path;
  description = item.description;
  version = new_object v item.object item.size item.mtime item.digest item.pool item.segments;
  until = item.until;
}

-- it is held from now on
abbrev pub held_too : ℕ → NewHeldObject → Inv → Inv
held_too filespace item v =
    record (with_clients (record v.clients { held = held_with filespace (new_held v item) v.clients.held }) v) { next_object = after_object item.object v }

abbrev pub hold : ℕ → NewHeldObject → Inv → Inv
hold filespace item v = put item.object item.segments (held_too filespace item v)

-- the versions of a path change
abbrev pub change_group : ℕ → List ℕ → GroupChange → Inv → Inv
change_group filespace path step v = with_filespaces (or_same v.clients.filespaces (filespaces_after filespace path step v.clients.filespaces)) v

-- a path is bound to another class
abbrev pub rebind : ℕ → Rebinding → Inv → Inv
rebind filespace item v = change_group filespace item.path (group.Rebind item.class) v

-- the active version of a path becomes inactive today
abbrev pub mark_gone : ℕ → NamedVersion → Inv → Inv
mark_gone filespace item v = change_group filespace item.path (group.Gone item.object v.today) v

abbrev pub copies_of : Option Version → List CopyRow
copies_of None = []
copies_of (Some version) = version.copies

-- the copies of an object's version
abbrev pub copies_at : ℕ → Inv → List CopyRow
copies_at object v = copies_of (version object v)

-- their segments go from their volumes
abbrev pub take_versions : ℕ → Inv → Inv
take_versions object v = take_all object (copies_at object v) v

-- an object that is kept under a path goes, and its copies with it
abbrev pub expire : ℕ → NamedVersion → Inv → Inv
expire filespace item v = (let w = take_versions item.object v in with_clients (or_same w.clients (rows_cleared filespace item.path item.object w.clients)) w)

-- an object goes, wherever it is kept, and its copies with it
abbrev pub discard : DiscardedVersion → Inv → Inv
discard item v = (let w = take_versions item.object v in with_clients (or_same w.clients (rows_without item.object w.clients)) w)

-- ---- fits

-- the copy of a new object
abbrev pub new_version_fits : Inv → NewVersion → Bool
new_version_fits v item = copy_fits v item.pool item.size item.segments

abbrev pub new_held_fits : Inv → NewHeldObject → Bool
new_held_fits v item = copy_fits v item.pool item.size item.segments

-- ---- items

-- one for each path among the items that has no group and isn't one of those that were seen, or the path of an earlier item
abbrev pub paths_added : ℕ → List (List ℕ) → List NewVersion → Inv → ℕ
paths_added filespace seen [] v = 0
paths_added filespace seen (i ∷ items) v =
    (if is_some (group filespace i.path v) || list_any (is_same_name i.path) seen then 0 else 1) + paths_added filespace (i.path ∷ seen) items v

-- an object, its copy and the copy's segments
abbrev pub items_of_new : NewVersion → ℕ
items_of_new i = 1 + (1 + length i.segments)

abbrev pub items_of_new_held : NewHeldObject → ℕ
items_of_new_held i = 1 + (1 + length i.segments)

-- ---- order

-- the groups of each filespace stand by path
abbrev pub AreGroupsOrdered : List (ℕ × Filespace) → Type 0
AreGroupsOrdered filespaces = AllByRecursion (λ f. AreByPath f.1.groups) filespaces

-- ---- made

-- the object is new, its filespace is there, and there is room for one object more and for the numbers behind its own and the transaction's
pub record CanInsert (filespace object : ℕ) (v : Inv) : Type 0 where
  pub new : IsNew object v.clients
  pub there : is_some (filespace_at filespace v.clients.filespaces) ≡ true
  pub room : nat_le most_kept (length (versions v)) ≡ false
  pub next : object + 1 < 2 ^ 64
  pub number : v.number + 1 < 2 ^ 64

-- so it is, and its segments can come
pub record CanBackUp (filespace : ℕ) (item : NewVersion) (v : Inv) : Type 0 where
  pub insert : CanInsert filespace item.object v
  pub segments : CanEach (CanPut item.object) (put_step item.object) item.segments (inserted filespace item v)

pub record CanHold (filespace : ℕ) (item : NewHeldObject) (v : Inv) : Type 0 where
  pub insert : CanInsert filespace item.object v
  pub segments : CanEach (CanPut item.object) (put_step item.object) item.segments (held_too filespace item v)

-- an object that is at its path is the active version there
abbrev pub CanBeGone : ℕ → NamedVersion → Inv → Type 0
CanBeGone filespace item v =
    OnTrue (has_object item.object (versions_at filespace item.path v.clients.filespaces)) (IsTrue (is_active item.object (versions_at filespace item.path v.clients.filespaces)))

-- the class that a path is bound to
abbrev pub class_of : Rebinding → List ℕ
class_of item = item.class
