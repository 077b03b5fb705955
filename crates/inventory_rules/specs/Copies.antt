-- Transactions that move copies, make copies, or take copies away. Each item is judged on the database before the transaction.
use Rattle.std.specs.List.{flat_map, list_all, list_any}
use Rattle.std.specs.Option.{option_map_or}
use Rattle.std.specs.Prelude.{ℕ, Option, Some, None, Bool, false, ◌==◌, List, ◌++◌, map, not, is_some, length, if◌then◌else◌, [], ◌∷◌, ◌&&◌, ◌||◌, ◌≡◌, ◌+◌, ◌<◌, ◌^◌, true}
use Rattle.kinds.specs.Refusals.{unless, bad_value}
use Rattle.kinds.specs.declared.refusal.By.TheVariants as by
use Rattle.kinds.specs.declared.refusal.Refusal.{Refusal}
use Rattle.kinds.specs.declared.refusal.Refusal.TheVariants as refusal
use Rattle.kinds.specs.declared.segment.Digest.{Digest}
use Rattle.kinds.specs.declared.segment.Segment.{Segment}
use Rattle.entries.specs.change_items.declared.items.DroppedCopy.{DroppedCopy}
use Rattle.entries.specs.change_items.declared.items.MovedCopy.{MovedCopy}
use Rattle.entries.specs.change_items.declared.items.NewCopy.{NewCopy}
use Rattle.entries.specs.change_items.declared.reasons.DropReason.{DropReason}
use Rattle.entries.specs.change_items.declared.reasons.DropReason.TheVariants as drop
use Rattle.kinds.specs.Names.{is_same_name}
use Rattle.inventory_rows.specs.version_groups.Copies.{has_copy, without_copy}
use Rattle.inventory_rows.specs.version_groups.Entries.{is_nil}
use Rattle.inventory_rows.specs.version_groups.declared.copies.CopyChange.{CopyChange}
use Rattle.inventory_rows.specs.version_groups.declared.copies.CopyChange.TheVariants as copy
use Rattle.inventory_rows.specs.version_groups.declared.copies.CopyRow.{CopyRow}
use Rattle.inventory_rows.specs.version_groups.declared.versions.Version.{Version}
use Rattle.inventory_rows.specs.object_rows.Rows.{FreePool, rows_altered}
use Rattle.inventory_rows.specs.Search.{version, copy_in, pool, is_primary, lies_on}
use Rattle.inventory_rows.specs.State.{Inv}
use Rattle.inventory_rules.specs.Common.{or_same, with_clients, this, CanEach, each}
use Rattle.inventory_rules.specs.Journal.{Journal}
use Rattle.inventory_rules.specs.Segments.{put, take_away, copy_fits, copy_fits_after, CanPut, put_step}
use Rattle.inventory_rules.specs.Valid.{primary_copies}
use Rattle.inventory_rules.specs.Versions.{of_version, name_once}

-- ---- refused

-- a copy is not as it was named: this transaction changed it; or the pool holds another one, which that transaction placed; or none
abbrev pub stale_copy : Option ℕ → Option CopyRow → Refusal
stale_copy (Some n) copy = refusal.Stale n
stale_copy None (Some copy) = refusal.Stale copy.placed
stale_copy None None = refusal.NotFound

abbrev pub placed_by : ℕ → Option CopyRow → Bool
placed_by placed None = false
placed_by placed (Some copy) = copy.placed == placed

-- a copy that is named by the transaction that placed it
abbrev pub copy_refused : Journal → ℕ → ℕ → ℕ → Version → List Refusal
copy_refused j object pool placed version = unless (placed_by placed (copy_in pool version)) (stale_copy (j.copy_changed object pool) (copy_in pool version))

-- a copy that moves is the one that is named
abbrev pub moved_refused : Journal → Inv → MovedCopy → List Refusal
moved_refused j v item = of_version j item.object (copy_refused j item.object item.from item.placed) (version item.object v)

abbrev pub move_refused : Journal → List MovedCopy → Inv → List Refusal
move_refused j items v = unless (name_once (map (λ i. i.object) items)) bad_value ++ flat_map (moved_refused j v) items

-- a copy is made where none lies
abbrev pub copied_refused : Journal → Inv → NewCopy → List Refusal
copied_refused j v item = of_version j item.object (λ w. unless (not (is_some (copy_in item.pool w))) (stale_copy (j.copy_changed item.object item.pool) (copy_in item.pool w))) (version item.object v)

abbrev pub copy_list_refused : Journal → List NewCopy → Inv → List Refusal
copy_list_refused j items v = unless (name_once (map (λ i. i.object) items)) bad_value ++ flat_map (copied_refused j v) items

-- the file that a reason names
abbrev pub file_of : DropReason → ℕ
file_of (drop.Audit file) = file
file_of (drop.Volume file) = file

-- an audit found other bytes than were stored; a volume that is deleted is none of a primary pool
abbrev pub drop_reason_refused : DropReason → ℕ → Digest → Digest → Inv → List Refusal
drop_reason_refused (drop.Audit file) pool kept found v = unless (not (is_same_name kept.0 found.0)) bad_value
drop_reason_refused (drop.Volume file) pool kept found v = unless (not (is_primary pool v)) bad_value

abbrev pub lies_there : ℕ → Option CopyRow → Bool
lies_there file None = false
lies_there file (Some copy) = lies_on file copy

-- the copy that is named has a segment on the volume; where the pool holds another copy, or none, that is not asked
abbrev pub named_drop_refused : Journal → DropReason → DroppedCopy → Version → List Refusal
named_drop_refused j reason item w =
    if placed_by item.placed (copy_in item.pool w)
    then unless (lies_there (file_of reason) (copy_in item.pool w)) refusal.NotFound
    else stale_copy (j.copy_changed item.object item.pool) (copy_in item.pool w) ∷ []

-- one of the copies lies in another pool
abbrev pub lies_elsewhere : ℕ → List CopyRow → Bool
lies_elsewhere pool copies = list_any (λ c. not (c.pool == pool)) copies

-- the copy is the one that is named, another copy of the version stays, and the reason holds
abbrev pub version_drop_refused : Journal → DropReason → Inv → DroppedCopy → Version → List Refusal
version_drop_refused j reason v item w =
    named_drop_refused j reason item w
    ++ (unless (lies_elsewhere item.pool w.copies) (refusal.InUse (by.Object item.object))
    ++ drop_reason_refused reason item.pool w.digest item.found v)

abbrev pub dropped_refused : Journal → DropReason → Inv → DroppedCopy → List Refusal
dropped_refused j reason v item = of_version j item.object (version_drop_refused j reason v item) (version item.object v)

abbrev pub drop_refused : Journal → DropReason → List DroppedCopy → Inv → List Refusal
drop_refused j reason items v = unless (name_once (map (λ i. i.object) items)) bad_value ++ flat_map (dropped_refused j reason v) items

-- ---- effect

-- the copies of an object change
abbrev pub change_copy : ℕ → CopyChange → Inv → Inv
change_copy object step v = with_clients (or_same v.clients (rows_altered object step v.clients)) v

abbrev pub segments_in : ℕ → Option Version → List Segment
segments_in pool None = []
segments_in pool (Some version) = option_map_or (λ c. c.segments) (copy_in pool version) []

abbrev pub version_at : ℕ → Inv → Option Version
version_at object v = version object v

-- what is placed now stands in its pool by the number of this transaction
abbrev pub placed_now : ℕ → List Segment → Inv → CopyRow
placed_now pool segments v = record { pool = pool; placed = this v; segments = segments }

-- copies move from one pool to another: the new segments of all come on their volumes first; then each takes the place of the former one,
-- whose segments go from their volumes
abbrev pub put_moved : MovedCopy → Inv → Inv
put_moved item v = put item.object item.segments v

abbrev pub take_moved : MovedCopy → Inv → Inv
take_moved item v = take_away item.object (segments_in item.from (version_at item.object v)) v

abbrev pub moved : MovedCopy → Inv → CopyChange
moved item v = copy.Replace item.from (placed_now item.pool item.segments v)

abbrev pub move_copy : MovedCopy → Inv → Inv
move_copy item v = change_copy item.object (moved item v) (take_moved item v)

-- a copy is made beside others
abbrev pub added : NewCopy → Inv → CopyChange
added item v = copy.Add (placed_now item.pool item.segments v)

abbrev pub add_copy : NewCopy → Inv → Inv
add_copy item v = put item.object item.segments (change_copy item.object (added item v) v)

-- a copy goes
abbrev pub dropped : DroppedCopy → CopyChange
dropped item = copy.Drop item.pool

abbrev pub drop_copy : DroppedCopy → Inv → Inv
drop_copy item v = change_copy item.object (dropped item) (take_away item.object (segments_in item.pool (version_at item.object v)) v)

-- ---- fits

-- a version has one primary copy at most
abbrev pub added_fits : Inv → NewCopy → Version → Bool
added_fits v item w =
    copy_fits v item.pool w.size item.segments && (not (is_primary item.pool v) || is_nil (primary_copies v w))

abbrev pub new_copy_fits : Inv → NewCopy → Bool
new_copy_fits v item = option_map_or (λ w. added_fits v item w) (version item.object v) false

-- a copy that moves, together with these, comes where no other copy lies; where that is a primary pool, no other copy lies in one
abbrev pub replaced_fits : List MovedCopy → Inv → MovedCopy → Version → Bool
replaced_fits moved v item w =
    copy_fits_after moved v item.pool w.size item.segments
    && (not (has_copy item.pool (without_copy item.from w.copies))
    && (not (is_primary item.pool v) || list_all (λ c. c.pool == item.from) (primary_copies v w)))

abbrev pub moved_copy_fits : List MovedCopy → Inv → MovedCopy → Bool
moved_copy_fits moved v item = option_map_or (λ w. replaced_fits moved v item w) (version item.object v) false

-- ---- items

-- the segments of a copy that moves, where they were
abbrev pub segments_left : Inv → MovedCopy → ℕ
segments_left v i = length (segments_in i.from (version i.object v))

-- ---- made

-- the object's version is there, and has no copy in the pool; there is room for the number behind the transaction's
pub record CanPlace (item : NewCopy) (v : Inv) : Type 0 where
  pub there : is_some (version item.object v) ≡ true
  pub free : FreePool (added item v) item.object v.clients
  pub number : v.number + 1 < 2 ^ 64

-- so it is, and the copy's segments can come
pub record CanCopy (item : NewCopy) (v : Inv) : Type 0 where
  pub place : CanPlace item v
  pub segments : CanEach (CanPut item.object) (put_step item.object) item.segments (change_copy item.object (added item v) v)

-- the new segments of a copy can come
abbrev pub CanPutMoved : MovedCopy → Inv → Type 0
CanPutMoved item v = CanEach (CanPut item.object) (put_step item.object) item.segments v

-- no copy but the one that moves lies in the pool that it moves to
abbrev pub CanMove : MovedCopy → Inv → Type 0
CanMove item v = FreePool (moved item v) item.object v.clients

-- the copy as the transaction behind the one with this number places it
abbrev pub placed_as : ℕ → MovedCopy → CopyRow
placed_as number item = record { pool = item.pool; placed = number + 1; segments = item.segments }

-- all new segments can come, and then each copy can take the place of the former one
pub record CanMoveAll (items : List MovedCopy) (v : Inv) : Type 0 where
  pub puts : CanEach CanPutMoved put_moved items v
  pub moves : CanEach CanMove move_copy items (each put_moved items v)
  pub number : v.number + 1 < 2 ^ 64
