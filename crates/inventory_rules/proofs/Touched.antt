-- What a transaction on objects and copies leaves as it was.
use Rattle.std.proofs.Common.{◌≡◌, ℕ, ◌+◌, Bool, true, false, cond, List, [], ◌∷◌, Option, Some, None, Result, Ok, Err, refl, ◌∙◌}
use Rattle.kinds.specs.declared.change.DefineOrDelete.TheVariants as two
use Rattle.kinds.specs.declared.change.ObjectChange.{ObjectChange}
use Rattle.kinds.specs.declared.change.ObjectChange.TheVariants as client
use Rattle.kinds.specs.declared.change.PoolChange.{PoolChange}
use Rattle.kinds.specs.declared.change.PoolChange.TheVariants as store
use Rattle.kinds.specs.declared.change.Verb.TheVariants as verb
use Rattle.kinds.specs.declared.refusal.Refusal.{Refusal}
use Rattle.kinds.specs.declared.segment.Segment.{Segment}
use Rattle.entries.specs.change_items.declared.items.DiscardedVersion.{DiscardedVersion}
use Rattle.entries.specs.change_items.declared.items.DroppedCopy.{DroppedCopy}
use Rattle.entries.specs.change_items.declared.items.MovedCopy.{MovedCopy}
use Rattle.entries.specs.change_items.declared.items.NamedVersion.{NamedVersion}
use Rattle.entries.specs.change_items.declared.items.NewCopy.{NewCopy}
use Rattle.entries.specs.change_items.declared.items.NewHeldObject.{NewHeldObject}
use Rattle.entries.specs.change_items.declared.items.NewVersion.{NewVersion}
use Rattle.entries.specs.change_items.declared.items.ScratchVolume.{ScratchVolume}
use Rattle.entries.specs.declared.change.Change.{Change}
use Rattle.entries.specs.declared.change.Change.TheVariants as change
use Rattle.inventory_rows.specs.version_groups.declared.copies.CopyChange.{CopyChange}
use Rattle.inventory_rows.specs.version_groups.declared.copies.CopyRow.{CopyRow}
use Rattle.inventory_rows.specs.version_groups.declared.group.GroupChange.{GroupChange}
use Rattle.inventory_rows.specs.version_groups.declared.group.GroupChange.TheVariants as group
use Rattle.inventory_rows.specs.version_groups.declared.groups.Filespace.{Filespace}
use Rattle.inventory_rows.specs.version_groups.declared.versions.Version.{Version}
use Rattle.inventory_rows.specs.version_groups.Copies.{copies_after}
use Rattle.inventory_rows.specs.version_groups.Entries.{if_found, on_ok}
use Rattle.inventory_rows.specs.version_groups.Versions.{version_of}
use Rattle.inventory_rows.specs.volume_rows.declared.volume.Volume.{Volume}
use Rattle.inventory_rows.specs.object_rows.Filespaces.{filespaces_after}
use Rattle.inventory_rows.specs.object_rows.HeldRows.{has_row, has_under, held_without}
use Rattle.inventory_rows.specs.object_rows.Places.{place_of}
use Rattle.inventory_rows.specs.object_rows.Rows as of_rows
use Rattle.inventory_rows.specs.object_rows.Rows.{Rows, filespaces_cleared, kept_of, rows_after, rows_altered, rows_cleared, rows_copied, rows_without, with_held}
use Rattle.inventory_rows.specs.pool_tables.Rows.{change_row}
use Rattle.inventory_rows.specs.pool_rows.PoolRows.{is_sequential_at}
use Rattle.inventory_rows.specs.pool_rows.Segments.{with_volumes}
use Rattle.inventory_rows.specs.pool_tables.RowChanges as row
use Rattle.inventory_rows.specs.volume_rows.Held.{held_of}
use Rattle.inventory_rows.specs.State.{Inv}
use Rattle.inventory_rules.specs.Common.{or_same, each, with_clients, with_filespaces, with_stores}
use Rattle.inventory_rules.specs.Copies.{change_copy, put_moved, move_copy, add_copy, drop_copy, segments_in, version_at, take_moved, moved, added, dropped}
use Rattle.inventory_rules.specs.Segments.{put, take_away, take_all, make_scratch}
use Rattle.inventory_rules.specs.Transactions.{effect, is_of_data, OnlyData}
use Rattle.inventory_rules.specs.Versions.{take_versions, back_up, hold, change_group, rebind, mark_gone, expire, discard, copies_at, inserted, held_too}

same : (v : Inv) → OnlyData v v
same v = record { today = refl; next_node = refl; next_filespace = refl; next_pool = refl; domains = refl; nodes = refl; classes = refl; pools = refl; backups = refl }

then : {a b c : Inv} → OnlyData a b → OnlyData b c → OnlyData a c
then s t = record {
  today = t.today ∙ s.today;
  next_node = t.next_node ∙ s.next_node;
  next_filespace = t.next_filespace ∙ s.next_filespace;
  next_pool = t.next_pool ∙ s.next_pool;
  domains = t.domains ∙ s.domains;
  nodes = t.nodes ∙ s.nodes;
  classes = t.classes ∙ s.classes;
  pools = t.pools ∙ s.pools;
  backups = t.backups ∙ s.backups;
}

each-same : {X : Type 0} (step : X → Inv → Inv) → ((x : X) (v : Inv) → OnlyData v (step x v)) → (xs : List X) (v : Inv) → OnlyData v (each step xs v)
each-same step h [] v = same v
each-same step h (x ∷ xs) v = then (h x v) (each-same step h xs (step x v))

-- other filespaces, and other volumes
spaces-same : (filespaces : List (ℕ × Filespace)) (v : Inv) → OnlyData v (with_filespaces filespaces v)
spaces-same filespaces v = record { today = refl; next_node = refl; next_filespace = refl; next_pool = refl; domains = refl; nodes = refl; classes = refl; pools = refl; backups = refl }

-- other rows, whose nodes are the same
clients-same : (rows : Rows) (v : Inv) → rows.nodes ≡ v.clients.nodes → OnlyData v (with_clients rows v)
clients-same rows v h = record { today = refl; next_node = refl; next_filespace = refl; next_pool = refl; domains = refl; nodes = h; classes = refl; pools = refl; backups = refl }

spaces-nodes : (rows : Rows) (r : Result (List (ℕ × Filespace)) Refusal) → (or_same rows (of_rows.with_filespaces rows r)).nodes ≡ rows.nodes
spaces-nodes rows (Ok filespaces) = refl
spaces-nodes rows (Err e) = refl

cleared-nodes : (n : ℕ) (path : List ℕ) (object : ℕ) (rows : Rows) → (or_same rows (rows_cleared n path object rows)).nodes ≡ rows.nodes
cleared-nodes n path object rows = go (has_under n path object rows.held) where
  go : (b : Bool) → (or_same rows (cond b (with_held rows (Ok (held_without object rows.held))) (rows_after n path (group.Remove object) rows))).nodes ≡ rows.nodes
  go true = refl
  go false = spaces-nodes rows (filespaces_after n path (group.Remove object) rows.filespaces)

without-nodes : (object : ℕ) (rows : Rows) → (or_same rows (rows_without object rows)).nodes ≡ rows.nodes
without-nodes object rows = go (has_row object rows.held) where
  go : (b : Bool) → (or_same rows (cond b (with_held rows (Ok (held_without object rows.held))) (of_rows.with_filespaces rows (filespaces_cleared object (place_of object rows.filespaces) rows.filespaces)))).nodes ≡ rows.nodes
  go true = refl
  go false = spaces-nodes rows (filespaces_cleared object (place_of object rows.filespaces) rows.filespaces)

altered-nodes : (object : ℕ) (c : CopyChange) (rows : Rows) → (or_same rows (rows_altered object c rows)).nodes ≡ rows.nodes
altered-nodes object c rows = found (version_of object (kept_of rows)) where
  copied : (r : Result (List CopyRow) Refusal) → (or_same rows (on_ok (λ copies. rows_copied object copies rows) r)).nodes ≡ rows.nodes
  copied (Ok copies) = refl
  copied (Err e) = refl

  found : (o : Option Version) → (or_same rows (if_found o (λ w. on_ok (λ copies. rows_copied object copies rows) (copies_after c w.copies)))).nodes ≡ rows.nodes
  found None = refl
  found (Some w) = copied (copies_after c w.copies)

volumes-same : (v : Inv) (r : Result (List (ℕ × Volume)) Refusal) → OnlyData v (with_stores (or_same v.stores (with_volumes v.stores r)) v)
volumes-same v (Ok volumes) = record { today = refl; next_node = refl; next_filespace = refl; next_pool = refl; domains = refl; nodes = refl; classes = refl; pools = refl; backups = refl }
volumes-same v (Err e) = same v

put-same : (object : ℕ) (segments : List Segment) (v : Inv) → OnlyData v (put object segments v)
put-same object [] v = same v
put-same object (s ∷ segments) v =
    then (volumes-same v (change_row s.file (row.put (is_sequential_at s.file v.stores) (held_of object s)) v.stores.volumes)) (put-same object segments (put object (s ∷ []) v))

take_away-same : (object : ℕ) (segments : List Segment) (v : Inv) → OnlyData v (take_away object segments v)
take_away-same object [] v = same v
take_away-same object (s ∷ segments) v =
    then (volumes-same v (change_row s.file (row.take (is_sequential_at s.file v.stores) (held_of object s) v.today) v.stores.volumes)) (take_away-same object segments (take_away object (s ∷ []) v))

take_all-same : (object : ℕ) (copies : List CopyRow) (v : Inv) → OnlyData v (take_all object copies v)
take_all-same object [] v = same v
take_all-same object (c ∷ copies) v = then (take_away-same object c.segments v) (take_all-same object copies (take_away object c.segments v))

change_copy-same : (object : ℕ) (c : CopyChange) (v : Inv) → OnlyData v (change_copy object c v)
change_copy-same object c v = clients-same (or_same v.clients (rows_altered object c v.clients)) v (altered-nodes object c v.clients)

change_group-same : (n : ℕ) (path : List ℕ) (c : GroupChange) (v : Inv) → OnlyData v (change_group n path c v)
change_group-same n path c v = record { today = refl; next_node = refl; next_filespace = refl; next_pool = refl; domains = refl; nodes = refl; classes = refl; pools = refl; backups = refl }

back_up-same : (n : ℕ) (item : NewVersion) (v : Inv) → OnlyData v (back_up n item v)
back_up-same n item v = then (record { today = refl; next_node = refl; next_filespace = refl; next_pool = refl; domains = refl; nodes = refl; classes = refl; pools = refl; backups = refl }) (put-same item.object item.segments (inserted n item v))

hold-same : (n : ℕ) (item : NewHeldObject) (v : Inv) → OnlyData v (hold n item v)
hold-same n item v = then (record { today = refl; next_node = refl; next_filespace = refl; next_pool = refl; domains = refl; nodes = refl; classes = refl; pools = refl; backups = refl }) (put-same item.object item.segments (held_too n item v))

expire-same : (n : ℕ) (item : NamedVersion) (v : Inv) → OnlyData v (expire n item v)
expire-same n item v =
    let w = take_versions item.object v in
    then (take_all-same item.object (copies_at item.object v) v) (clients-same (or_same w.clients (rows_cleared n item.path item.object w.clients)) w (cleared-nodes n item.path item.object w.clients))

discard-same : (item : DiscardedVersion) (v : Inv) → OnlyData v (discard item v)
discard-same item v =
    let w = take_versions item.object v in
    then (take_all-same item.object (copies_at item.object v) v) (clients-same (or_same w.clients (rows_without item.object w.clients)) w (without-nodes item.object w.clients))

move_copy-same : (item : MovedCopy) (v : Inv) → OnlyData v (move_copy item v)
move_copy-same item v =
    then (take_away-same item.object (segments_in item.from (version_at item.object v)) v) (change_copy-same item.object (moved item v) (take_moved item v))

add_copy-same : (item : NewCopy) (v : Inv) → OnlyData v (add_copy item v)
add_copy-same item v = then (change_copy-same item.object (added item v) v) (put-same item.object item.segments (change_copy item.object (added item v) v))

drop_copy-same : (item : DroppedCopy) (v : Inv) → OnlyData v (drop_copy item v)
drop_copy-same item v =
    then (take_away-same item.object (segments_in item.pool (version_at item.object v)) v) (change_copy-same item.object (dropped item) (take_away item.object (segments_in item.pool (version_at item.object v)) v))

counted : {a b : Inv} (n : ℕ) → OnlyData a b → OnlyData a (record b { number = n })
counted n s = record { today = s.today; next_node = s.next_node; next_filespace = s.next_filespace; next_pool = s.next_pool; domains = s.domains; nodes = s.nodes; classes = s.classes; pools = s.pools; backups = s.backups }

made : (s : ScratchVolume) (v : Inv) → OnlyData v (make_scratch s v)
made s v = record { today = refl; next_node = refl; next_filespace = refl; next_pool = refl; domains = refl; nodes = refl; classes = refl; pools = refl; backups = refl }

pub effect-data : (c : Change) (v : Inv) → is_of_data c ≡ true → OnlyData v (effect c v)
unfolding effect
effect-data (change.Day day) v h = absurd cc
effect-data (change.Policy c) v h = absurd cc
effect-data (change.Object c) v h = absurd cc
effect-data (change.Pool c) v h = absurd cc
effect-data (change.Backup c) v h = counted (v.number + 1) (then (each-same make_scratch made c.scratch v) (each-same (back_up c.filespace) (back_up-same c.filespace) c.items (each make_scratch c.scratch v)))
effect-data (change.Hold c) v h = counted (v.number + 1) (then (each-same make_scratch made c.scratch v) (each-same (hold c.filespace) (hold-same c.filespace) c.items (each make_scratch c.scratch v)))
effect-data (change.Rebind c) v h = counted (v.number + 1) (each-same (rebind c.filespace) (λ i w. change_group-same c.filespace i.path (group.Rebind i.class) w) c.items v)
effect-data (change.Gone c) v h = counted (v.number + 1) (each-same (mark_gone c.filespace) (λ i w. change_group-same c.filespace i.path (group.Gone i.object w.today) w) c.items v)
effect-data (change.Move c) v h =
    counted (v.number + 1)
    (then (each-same make_scratch made c.scratch v)
    (then (each-same put_moved (λ i w. put-same i.object i.segments w) c.items (each make_scratch c.scratch v)) (each-same move_copy move_copy-same c.items (each put_moved c.items (each make_scratch c.scratch v)))))
effect-data (change.Copy c) v h = counted (v.number + 1) (then (each-same make_scratch made c.scratch v) (each-same add_copy add_copy-same c.items (each make_scratch c.scratch v)))
effect-data (change.DropCopies c) v h = counted (v.number + 1) (each-same drop_copy drop_copy-same c.items v)
effect-data (change.Expire c) v h = counted (v.number + 1) (each-same (expire c.filespace) (expire-same c.filespace) c.items v)
effect-data (change.Discard c) v h = counted (v.number + 1) (each-same discard discard-same c.items v)
effect-data (change.Reuse file) v h = record { today = refl; next_node = refl; next_filespace = refl; next_pool = refl; domains = refl; nodes = refl; classes = refl; pools = refl; backups = refl }
effect-data (change.DbBegin file after) v h = absurd cc
effect-data (change.DbEnd file) v h = absurd cc
effect-data (change.DbDelete file) v h = absurd cc

-- nodes and filespaces alone
pub effect-clients : (c : ObjectChange) (v : Inv) → effect (change.Object c) v ≡ record v { number = v.number + 1; next_node = (effect (change.Object c) v).next_node; next_filespace = (effect (change.Object c) v).next_filespace; clients = (effect (change.Object c) v).clients }
unfolding effect
effect-clients (client.Node two.Define name domain) v = refl
effect-clients (client.Node two.Delete name domain) v = refl
effect-clients (client.Filespace two.Define node name n) v = refl
effect-clients (client.Filespace two.Delete node name n) v = refl

-- device classes, pools, volumes and the delays of backups alone
pub effect-stores : (c : PoolChange) (v : Inv) → effect (change.Pool c) v ≡ record v { number = v.number + 1; next_pool = (effect (change.Pool c) v).next_pool; next_file = (effect (change.Pool c) v).next_file; stores = (effect (change.Pool c) v).stores; backups = (effect (change.Pool c) v).backups }
unfolding effect
effect-stores (store.DevClass v1 name capacity) v = refl
effect-stores (store.Pool verb.Define name class kind rule) v = refl
effect-stores (store.Pool verb.Update name class kind rule) v = refl
effect-stores (store.Pool verb.Delete name class kind rule) v = refl
effect-stores (store.Volume verb.Define name pool file capacity access) v = refl
effect-stores (store.Volume verb.Update name pool file capacity access) v = refl
effect-stores (store.Volume verb.Delete name pool file capacity access) v = refl
