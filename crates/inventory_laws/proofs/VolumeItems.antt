-- The steps of the items of a transaction on data: copies that come with their segments, that move, and that go.
use Rattle.std.proofs.Common.{◌≡◌, ℕ, List, [], ◌∷◌, ◌++◌, map, Option, Some, Result, refl, sym, ap, subst, ◌∙◌, append_assoc, append-nil}
use Rattle.std.specs.List.{flat_map, list_all}
use Rattle.std.specs.Option.{option_map_or}
use Rattle.std.proofs.lemmas.Bool.{and_parts}
use Rattle.kinds.specs.declared.refusal.Refusal.{Refusal}
use Rattle.kinds.specs.declared.segment.Segment.{Segment}
use Rattle.inventory_rules.specs.entries.change_items.declared.items.DroppedCopy.{DroppedCopy}
use Rattle.inventory_rules.specs.entries.change_items.declared.items.MovedCopy.{MovedCopy}
use Rattle.inventory_rules.specs.entries.change_items.declared.items.NewCopy.{NewCopy}
use Rattle.inventory_rules.specs.inventory_rows.version_groups.declared.copies.CopyRow.{CopyRow}
use Rattle.inventory_rules.specs.inventory_rows.version_groups.declared.versions.Version.{Version}
use Rattle.inventory_rules.specs.inventory_rows.object_rows.Rows.{Rows, rows_altered}
use Rattle.inventory_rules.specs.inventory_rows.Search.{copies, copy_in, version}
use Rattle.inventory_rules.specs.inventory_rows.State.{Inv}
use Rattle.inventory_rules.specs.Common.{each, or_same, with_clients}
use Rattle.inventory_rules.specs.Copies.{added, add_copy, change_copy, drop_copy, dropped, move_copy, moved, placed_now, put_moved, segments_in, take_moved}
use Rattle.inventory_rules.specs.Segments.{put, take_all, take_away, lies_rightly}
use Rattle.inventory_rules.specs.Versions.{copies_of, take_versions}
use Rattle.inventory_rules.specs.inventory_rows.pool_tables.Rows.{row_at}
use Rattle.inventory_rules.specs.inventory_rows.pool_rows.PoolRows.{is_sequential_at}
use Rattle.inventory_rules.specs.Halfway.{segments_of, VersionFacts, VolumeFacts}
use Rattle.inventory_rules.specs.Reordered.{IsReordered}
use Rattle.inventory_laws.specs.Coming.{Came, in_pool, in_pools, is_clear_there, MayCome, of_object}
use Rattle.inventory_laws.specs.Kept.{clients_after, OnlyVolumes}
use Rattle.inventory_laws.proofs.Changing.{facts_reordered, lying_reordered, put_one, take_copies, take_list}
use Rattle.inventory_laws.proofs.Coming.{come_one, come_reordered, come_swapped}
use Rattle.inventory_laws.proofs.Keeping.{kept_same, kept_then, put_kept, take_all_kept, take_kept}
use Rattle.inventory_laws.proofs.Orders.{reordered_first, reordered_front}
use Rattle.inventory_laws.proofs.Swapping.{facts_swapped}
use Rattle.inventory_laws.proofs.VersionsWhole.{elsewhere}

-- ---- segments of one copy come

pub puts_come : (p : List (ℕ × Segment)) (object n : ℕ) (segments : List Segment) (v : Inv) (rest : List (ℕ × Segment)) → VolumeFacts p v → MayCome p v (in_pool n segments ++ rest) → Came (of_object object segments ++ p) (put object segments v) rest
puts_come p object n [] v rest f m = record { facts = f; rest = m }
puts_come p object n (s ∷ segments) v rest f m =
    let w : Inv = put object (s ∷ []) v in
    let lie = and_parts (lies_rightly (is_sequential_at s.file v.stores) n s (row_at s.file v.stores.volumes)) (list_all (λ e. lies_rightly (is_sequential_at e.1.file v.stores) e.0 e.1 (row_at e.1.file v.stores.volumes)) (in_pool n segments ++ rest)) m.lie in
    let clear = and_parts (is_clear_there p v s) (list_all (λ e. is_clear_there p v e.1) (in_pool n segments ++ rest)) m.clear in
    let came : Came (of_object object segments ++ (object, s) ∷ p) (put object segments w) rest =
    puts_come ((object, s) ∷ p) object n segments w rest (put_one p v object n s f lie.0 clear.0) (come_one p v object n s (in_pool n segments ++ rest) m) in
    let r : IsReordered (of_object object segments ++ (object, s) ∷ p) ((object, s) ∷ (of_object object segments ++ p)) = reordered_front (of_object object segments) (object, s) p in
    record {
      facts = facts_reordered (of_object object segments ++ (object, s) ∷ p) ((object, s) ∷ (of_object object segments ++ p)) (put object segments w) came.facts r;
      rest =
          come_reordered (of_object object segments ++ (object, s) ∷ p) ((object, s) ∷ (of_object object segments ++ p)) (put object segments w) (put object segments w) rest
          (lying_reordered (of_object object segments ++ (object, s) ∷ p) ((object, s) ∷ (of_object object segments ++ p)) (put object segments w) r) refl came.rest;
    }

-- ---- the clients' rows change before the volumes or after them

-- other rows, and another next object
abbrev pub with_rows : Rows → ℕ → Inv → Inv
with_rows rows next v = record (with_clients rows v) { next_object = next }

put-with_rows : (object : ℕ) (segments : List Segment) (rows : Rows) (next : ℕ) (v : Inv) → put object segments (with_rows rows next v) ≡ with_rows rows next (put object segments v)
put-with_rows object [] rows next v = refl
put-with_rows object (s ∷ segments) rows next v = put-with_rows object segments rows next (put object (s ∷ []) v)

pub put-with_clients : (object : ℕ) (segments : List Segment) (rows : Rows) (v : Inv) → put object segments (with_clients rows v) ≡ with_clients rows (put object segments v)
put-with_clients object [] rows v = refl
put-with_clients object (s ∷ segments) rows v = put-with_clients object segments rows (put object (s ∷ []) v)

pub take-with_clients : (object : ℕ) (segments : List Segment) (rows : Rows) (v : Inv) → take_away object segments (with_clients rows v) ≡ with_clients rows (take_away object segments v)
take-with_clients object [] rows v = refl
take-with_clients object (s ∷ segments) rows v = take-with_clients object segments rows (take_away object (s ∷ []) v)

take_all-with_clients : (object : ℕ) (cs : List CopyRow) (rows : Rows) (v : Inv) → take_all object cs (with_clients rows v) ≡ with_clients rows (take_all object cs v)
take_all-with_clients object [] rows v = refl
take_all-with_clients object (c ∷ cs) rows v = ap (take_all object cs) (take-with_clients object c.segments rows v) ∙ take_all-with_clients object cs rows (take_away object c.segments v)

clients_kept : (v w : Inv) → OnlyVolumes v w → w.clients ≡ v.clients
clients_kept v w k = ap (λ (x : Inv). x.clients) k.only

-- ---- a copy comes

one_copy : (object : ℕ) (row : CopyRow) → segments_of ((object, row) ∷ []) ≡ of_object object row.segments
one_copy object row = append-nil (of_object object row.segments)

pub copy_comes : (p : List (ℕ × Segment)) (object n : ℕ) (row : CopyRow) (rows : Rows) (next : ℕ) (v : Inv) (rest : List (ℕ × Segment)) → VolumeFacts p v → MayCome p v (in_pool n row.segments ++ rest)
    → IsReordered ((object, row) ∷ copies v) (copies (with_clients rows v)) → Came p (put object row.segments (with_rows rows next v)) rest
copy_comes p object n row rows next v rest f m r =
    let u : Inv = put object row.segments v in
    let came : Came (of_object object row.segments ++ p) u rest = puts_come p object n row.segments v rest f m in
    let same : copies u ≡ copies v = ap copies (put_kept object row.segments v).only in
    let order : IsReordered ((object, row) ∷ copies u) (copies (with_rows rows next u)) = subst (λ (l : List (ℕ × CopyRow)). IsReordered ((object, row) ∷ l) (copies (with_clients rows v))) (sym same) r in
    let facts : VolumeFacts (segments_of ((object, row) ∷ []) ++ p) u = subst (λ (l : List (ℕ × Segment)). VolumeFacts (l ++ p) u) (sym (one_copy object row)) came.facts in
    let left : MayCome (segments_of ((object, row) ∷ []) ++ p) u rest = subst (λ (l : List (ℕ × Segment)). MayCome (l ++ p) u rest) (sym (one_copy object row)) came.rest in
    subst (λ (x : Inv). Came p x rest) (sym (put-with_rows object row.segments rows next v))
    (record {
      facts = facts_swapped ((object, row) ∷ []) [] p u (with_rows rows next u) refl refl refl refl order facts;
      rest = come_swapped ((object, row) ∷ []) [] p u (with_rows rows next u) rest refl order left;
    })

-- ---- copies go

pub copies_go : (p : List (ℕ × Segment)) (object : ℕ) (olds : List CopyRow) (rows : Rows) (v : Inv) → IsReordered (copies v) (map (λ c. (object, c)) olds ++ copies (with_clients rows v)) → VolumeFacts p v → VolumeFacts p (with_clients rows (take_all object olds v))
copies_go p object olds rows v r f =
    subst (VolumeFacts p) (take_all-with_clients object olds rows v)
    (take_copies p object olds (with_clients rows v) (facts_swapped [] (map (λ c. (object, c)) olds) p v (with_clients rows v) refl refl refl refl r f))

-- one copy takes the place of another
pub copy_moves : (p : List (ℕ × Segment)) (object : ℕ) (old new : CopyRow) (rows : Rows) (v : Inv) → IsReordered ((object, new) ∷ copies v) ((object, old) ∷ copies (with_clients rows v)) → VolumeFacts (of_object object new.segments ++ p) v
    → VolumeFacts p (with_clients rows (take_away object old.segments v))
copy_moves p object old new rows v r f =
    let before : VolumeFacts (segments_of ((object, new) ∷ []) ++ p) v = subst (λ (l : List (ℕ × Segment)). VolumeFacts (l ++ p) v) (sym (one_copy object new)) f in
    let after : VolumeFacts (segments_of ((object, old) ∷ []) ++ p) (with_clients rows v) = facts_swapped ((object, new) ∷ []) ((object, old) ∷ []) p v (with_clients rows v) refl refl refl refl r before in
    subst (VolumeFacts p) (take-with_clients object old.segments rows v)
    (take_list p object old.segments (with_clients rows v) (subst (λ (l : List (ℕ × Segment)). VolumeFacts (l ++ p) (with_clients rows v)) (one_copy object old) after))

-- ---- the steps of the items

-- the rows after a change, or as they were where it is refused
abbrev pub rows_by : (Rows → Result Rows Refusal) → Inv → Rows
rows_by step v = or_same v.clients (step v.clients)

after-later : (step : Rows → Result Rows Refusal) (v u : Inv) → OnlyVolumes v u → clients_after step u ≡ with_clients (rows_by step v) u
after-later step v u k = ap (λ (c : Rows). with_clients (or_same c (step c)) u) (clients_kept v u k)

segments_found : (object pool : ℕ) (v : Inv) (w : Version) (old : CopyRow) → version object v ≡ Some w → copy_in pool w ≡ Some old → segments_in pool (version object v) ≡ old.segments
segments_found object pool v w old found there = ap (segments_in pool) found ∙ ap (λ (o : Option CopyRow). option_map_or (λ (c : CopyRow). c.segments) o []) there

pub copy_drops : (p : List (ℕ × Segment)) (item : DroppedCopy) (v : Inv) (w : Version) (old : CopyRow) → version item.object v ≡ Some w → copy_in item.pool w ≡ Some old
    → IsReordered (copies v) ((item.object, old) ∷ copies (change_copy item.object (dropped item) v)) → VolumeFacts p v → VolumeFacts p (drop_copy item v)
copy_drops p item v w old found there r f =
    let rows : Rows = rows_by (rows_altered item.object (dropped item)) v in
    let u : Inv = take_away item.object (segments_in item.pool (version item.object v)) v in
    let is : change_copy item.object (dropped item) u ≡ with_clients rows u = after-later (rows_altered item.object (dropped item)) v u (take_kept item.object (segments_in item.pool (version item.object v)) v) in
    subst (VolumeFacts p) (sym is)
    (subst (λ (ss : List Segment). VolumeFacts p (with_clients rows (take_away item.object ss v))) (sym (segments_found item.object item.pool v w old found there))
    (copies_go p item.object (old ∷ []) rows v r f))

pub moves : (p : List (ℕ × Segment)) (item : MovedCopy) (v : Inv) (w : Version) (old : CopyRow) → version item.object v ≡ Some w → copy_in item.from w ≡ Some old
    → IsReordered ((item.object, placed_now item.pool item.segments v) ∷ copies v) ((item.object, old) ∷ copies (change_copy item.object (moved item v) v))
    → VolumeFacts (of_object item.object item.segments ++ p) v → VolumeFacts p (move_copy item v)
moves p item v w old found there r f =
    let rows : Rows = rows_by (rows_altered item.object (moved item v)) v in
    let u : Inv = take_moved item v in
    let is : move_copy item v ≡ with_clients rows u = after-later (rows_altered item.object (moved item v)) v u (take_kept item.object (segments_in item.from (version item.object v)) v) in
    subst (VolumeFacts p) (sym is)
    (subst (λ (ss : List Segment). VolumeFacts p (with_clients rows (take_away item.object ss v))) (sym (segments_found item.object item.from v w old found there))
    (copy_moves p item.object old (placed_now item.pool item.segments v) rows v r f))

-- an object goes from the rows, and its copies with it
pub removes : (p : List (ℕ × Segment)) (step : Rows → Result Rows Refusal) (object : ℕ) (v : Inv) (w : Version) → version object v ≡ Some w
    → IsReordered (copies v) (map (λ c. (object, c)) w.copies ++ copies (clients_after step v)) → VolumeFacts p v → VolumeFacts p (clients_after step (take_versions object v))
removes p step object v w found r f =
    let rows : Rows = rows_by step v in
    let u : Inv = take_versions object v in
    let is : clients_after step u ≡ with_clients rows u = after-later step v u (take_all_kept object (copies_of (version object v)) v) in
    subst (VolumeFacts p) (sym is)
    (subst (λ (o : Option Version). VolumeFacts p (with_clients rows (take_all object (copies_of o) v))) (sym found) (copies_go p object w.copies rows v r f))

pub adds : (p : List (ℕ × Segment)) (item : NewCopy) (v : Inv) (rest : List (ℕ × Segment)) → VolumeFacts p v → MayCome p v (in_pool item.pool item.segments ++ rest)
    → IsReordered ((item.object, placed_now item.pool item.segments v) ∷ copies v) (copies (change_copy item.object (added item v) v)) → Came p (add_copy item v) rest
adds p item v rest f m r = copy_comes p item.object item.pool (placed_now item.pool item.segments v) (rows_by (rows_altered item.object (added item v)) v) v.next_object v rest f m r

-- ---- all copies that move come first

pub moved_come : (p : List (ℕ × Segment)) (items : List MovedCopy) (v : Inv) (rest : List (ℕ × Segment)) → VolumeFacts p v → MayCome p v (in_pools (λ (i : MovedCopy). i.pool) (λ i. i.segments) items ++ rest)
    → Came (flat_map (λ (i : MovedCopy). of_object i.object i.segments) items ++ p) (each put_moved items v) rest
moved_come p [] v rest f m = record { facts = f; rest = m }
moved_come p (i ∷ items) v rest f m =
    let later : List (ℕ × Segment) = in_pools (λ (j : MovedCopy). j.pool) (λ j. j.segments) items in
    let others : List (ℕ × Segment) = flat_map (λ (j : MovedCopy). of_object j.object j.segments) items in
    let these : List (ℕ × Segment) = of_object i.object i.segments in
    let one : Came (these ++ p) (put_moved i v) (later ++ rest) =
    puts_come p i.object i.pool i.segments v (later ++ rest) f (subst (λ (l : List (ℕ × Segment)). MayCome p v l) (append_assoc (in_pool i.pool i.segments) later rest) m) in
    let all : Came (others ++ (these ++ p)) (each put_moved items (put_moved i v)) rest = moved_come (these ++ p) items (put_moved i v) rest one.facts one.rest in
    let r : IsReordered (others ++ (these ++ p)) ((these ++ others) ++ p) = subst (λ (l : List (ℕ × Segment)). IsReordered (others ++ (these ++ p)) l) (sym (append_assoc these others p)) (reordered_first others these p) in
    record {
      facts = facts_reordered (others ++ (these ++ p)) ((these ++ others) ++ p) (each put_moved items (put_moved i v)) all.facts r;
      rest =
          come_reordered (others ++ (these ++ p)) ((these ++ others) ++ p) (each put_moved items (put_moved i v)) (each put_moved items (put_moved i v)) rest
          (lying_reordered (others ++ (these ++ p)) ((these ++ others) ++ p) (each put_moved items (put_moved i v)) r) refl all.rest;
    }

pub moved_kept : (items : List MovedCopy) (v : Inv) → OnlyVolumes v (each put_moved items v)
moved_kept [] v = kept_same v
moved_kept (i ∷ items) v = kept_then v (put_moved i v) (each put_moved (i ∷ items) v) (put_kept i.object i.segments v) (moved_kept items (put_moved i v))

-- ---- but for the volumes, a step is the change of the clients' rows

kept_with : (rows : Rows) (v u : Inv) → OnlyVolumes v u → OnlyVolumes (with_clients rows v) (with_clients rows u)
kept_with rows v u k = record { only = ap (λ (x : Inv). with_clients rows x) k.only; shapes = k.shapes }

-- the same step on rows that are the same
pub after_kept : (step : Rows → Result Rows Refusal) (v u : Inv) → OnlyVolumes v u → OnlyVolumes (clients_after step v) (clients_after step u)
after_kept step v u k = subst (OnlyVolumes (clients_after step v)) (sym (after-later step v u k)) (kept_with (rows_by step v) v u k)

pub drops_kept : (item : DroppedCopy) (v : Inv) → OnlyVolumes (change_copy item.object (dropped item) v) (drop_copy item v)
drops_kept item v =
    after_kept (rows_altered item.object (dropped item)) v (take_away item.object (segments_in item.pool (version item.object v)) v) (take_kept item.object (segments_in item.pool (version item.object v)) v)

pub moves_kept : (item : MovedCopy) (v : Inv) → OnlyVolumes (change_copy item.object (moved item v) v) (move_copy item v)
moves_kept item v = after_kept (rows_altered item.object (moved item v)) v (take_moved item v) (take_kept item.object (segments_in item.from (version item.object v)) v)

pub removes_kept : (step : Rows → Result Rows Refusal) (object : ℕ) (v : Inv) → OnlyVolumes (clients_after step v) (clients_after step (take_versions object v))
removes_kept step object v = after_kept step v (take_versions object v) (take_all_kept object (copies_of (version object v)) v)

-- what is said of versions isn't of the rows of volumes
pub versions_kept : (n : ℕ) (v w : Inv) → OnlyVolumes v w → VersionFacts n v → VersionFacts n w
versions_kept n v w k f =
    elsewhere n v w (clients_kept v w k) (ap (λ (x : Inv). x.next_filespace) k.only) (ap (λ (x : Inv). x.next_object) k.only) (ap (λ (x : Inv). x.stores.pools) k.only) (ap (λ (x : Inv). x.today) k.only) f
