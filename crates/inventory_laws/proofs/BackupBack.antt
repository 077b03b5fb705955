-- New objects of a database that is valid with them fit where they came.
use Rattle.std.proofs.Common.{◌≡◌, ℕ, ◌+◌, true, eqb, not, ◌&&◌, List, [], ◌∷◌, ◌++◌, map, is_some, refl, sym, ap, subst, ◌∙◌}
use Rattle.std.specs.Prelude.{nat_le, ◌==◌}
use Rattle.std.specs.List.{flat_map, list_all, sum_by}
use Rattle.std.proofs.lemmas.Bool.{and_parts, and_from, not-true}
use Rattle.kinds.specs.declared.segment.Segment.{Segment}
use Rattle.inventory_rules.specs.entries.change_items.declared.items.NewHeldObject.{NewHeldObject}
use Rattle.inventory_rules.specs.entries.change_items.declared.items.NewVersion.{NewVersion}
use Rattle.inventory_rules.specs.inventory_rows.version_groups.declared.copies.CopyRow.{CopyRow}
use Rattle.inventory_rules.specs.inventory_rows.version_groups.Entries.{all_later}
use Rattle.inventory_rules.specs.inventory_rows.version_groups.Versions.{has_object}
use Rattle.inventory_rules.specs.inventory_rows.object_rows.Filespaces.{filespace_at}
use Rattle.inventory_rules.specs.inventory_rows.object_rows.Rows.{Rows, kept_of}
use Rattle.inventory_rules.specs.inventory_rows.pool_tables.Rows.{row_at}
use Rattle.inventory_rules.specs.inventory_rows.pool_rows.PoolRows.{PoolRows}
use Rattle.inventory_rules.specs.inventory_rows.Search.{copies, pool, versions}
use Rattle.inventory_rules.specs.inventory_rows.State.{Inv}
use Rattle.inventory_rules.specs.Common.{each, with_clients}
use Rattle.inventory_rules.specs.Halfway.{segments_of, VersionFacts}
use Rattle.inventory_rules.specs.Ordered.{IsOrdered}
use Rattle.inventory_rules.specs.Reordered.{IsReordered}
use Rattle.inventory_rules.specs.Segments.{are_all_clear, copy_fits, items_fit, put, segment_fits_after}
use Rattle.inventory_rules.specs.Valid.{copies_cite, is_copied}
use Rattle.inventory_rules.specs.Versions.{back_up, held_too, hold, inserted, is_new_object, new_held_fits, new_version_fits}
use Rattle.inventory_laws.specs.Coming.{in_pools, MayCome}
use Rattle.inventory_laws.specs.Kept.{is_cited, nothing, OnlyVolumes, shape_of}
use Rattle.inventory_laws.proofs.Arriving.{Comes, NewObject, copied_back, copies_more, held_arrived, kept_new, number_arrived, other_arrived, row_new, there_arrived}
use Rattle.inventory_laws.proofs.FitBack.{IsLeft, copied_still, items_back, pools_of, rows_segments, same_shapes, shapes_of, shapes_then, sound}
use Rattle.inventory_laws.proofs.Keeping.{put_kept}
use Rattle.inventory_laws.proofs.Kept.{is_held_there}
use Rattle.inventory_laws.proofs.Laid.{SameShapes, rows_came}
use Rattle.inventory_laws.proofs.MovedRows.{filter-every, staying}
use Rattle.inventory_laws.proofs.Ordered.{ordered_inserted}
use Rattle.inventory_laws.proofs.Orders.{list_all-reordered, reordered_back, reordered_behind, reordered_front, reordered_itself, reordered_then}
use Rattle.inventory_laws.proofs.Others.{there_inserted}
use Rattle.inventory_laws.proofs.PutSteps.{held_object_comes, of_held, of_version, version_comes}
use Rattle.inventory_laws.proofs.VersionsWhole.{ordered_elsewhere}
use Rattle.inventory_laws.proofs.VolumeRows.{all_both, all_so, list_all-parts}

-- the row of its copy, where the last transaction has this number
abbrev row_at_number : ℕ → NewObject → CopyRow
row_at_number n i = record { pool = i.pool; placed = n + 1; segments = i.segments }

with_volumes_of : Inv → PoolRows → PoolRows
with_volumes_of w s = record s { volumes = w.stores.volumes }

shapes_from : (v u w : Inv) → u.stores ≡ v.stores → SameShapes u w → SameShapes v w
unfolding with_volumes_of
shapes_from v u w e s = record {
  stores = s.stores ∙ ap (with_volumes_of w) e;
  shapes = λ file. s.shapes file ∙ ap (λ (x : PoolRows). shape_of (row_at file x.volumes)) e;
}

-- ---- all that came

record Brought {X : Type 0} (what : X → NewObject) (u : Inv) (n : ℕ) (items : List X) (v w : Inv) : Type 0 where
  rows : IsReordered (map (λ x. ((what x).object, row_at_number n (what x))) items ++ copies v) (copies w)
  sized : list_all (λ x. sum_by (λ s. s.len) (what x).segments == (what x).size) items ≡ true
  all : list_all (is_copied u) (versions v) ≡ true

-- the rows change, and the volumes behind them; what holds of the items to come gives how the first comes, and holds of the others then
module _ {X : Type 0} (what : X → NewObject) (rows : X → Inv → Inv) (stores : (x : X) (v : Inv) → (rows x v).stores ≡ v.stores) where
  abbrev step : X → Inv → Inv
  step x v = put (what x).object (what x).segments (rows x v)

  pub all_shapes : (items : List X) (v : Inv) → SameShapes v (each step items v)
  all_shapes [] v = same_shapes v
  all_shapes (x ∷ items) v =
      shapes_then v (step x v) (each step items (step x v)) (shapes_from v (rows x v) (step x v) (stores x v) (shapes_of (rows x v) (step x v) (put_kept (what x).object (what x).segments (rows x v)))) (all_shapes items (step x v))

  module _ (Ready : List X → Inv → Type 0) (comes : (x : X) (items : List X) (v : Inv) → Ready (x ∷ items) v → Comes (what x) v (rows x v))
      (goes_on : (x : X) (items : List X) (v w : Inv) → w.clients ≡ (rows x v).clients → Ready (x ∷ items) v → Ready items w) where
    all_brought : (u : Inv) (n : ℕ) (items : List X) (v : Inv) → v.number ≡ n → Ready items v → list_all (is_copied u) (versions (each step items v)) ≡ true → Brought what u n items v (each step items v)
    all_brought u n [] v number ready h = record { rows = reordered_itself (copies v); sized = refl; all = h }
    all_brought u n (x ∷ items) v number ready h =
        let i : NewObject = what x in
        let mid : Inv = rows x v in
        let y : Inv = step x v in
        let w : Inv = each step items y in
        let k : OnlyVolumes mid y = put_kept i.object i.segments mid in
        let c : Comes i v mid = comes x items v ready in
        let same : y.number ≡ v.number = ap (λ (z : Inv). z.number) k.only ∙ number_arrived i v mid c in
        let r : Brought what u n items y w = all_brought u n items y (same ∙ number) (goes_on x items v y (ap (λ (z : Inv). z.clients) k.only) ready) h in
        let here = copied_back u i v mid c (sym (ap (λ (z : Inv). list_all (is_copied u) (versions z)) k.only) ∙ r.all) in
        let row : ℕ × CopyRow = (i.object, row_at_number n i) in
        let news : List (ℕ × CopyRow) = map (λ z. ((what z).object, row_at_number n (what z))) items in
        let one : IsReordered (row ∷ copies v) (copies y) =
        subst (λ (m : ℕ). IsReordered {A = ℕ × CopyRow} ((i.object, row_at_number m i) ∷ copies v) (copies y)) number
        (subst (λ (l : List (ℕ × CopyRow)). IsReordered {A = ℕ × CopyRow} (row_new i v ∷ copies v) l) (sym (ap (λ (z : Inv). copies z) k.only)) (copies_more i v mid c)) in
        record {
          rows =
              reordered_then (row ∷ (news ++ copies v)) (news ++ row ∷ copies v) (copies w) (reordered_back (news ++ row ∷ copies v) (row ∷ (news ++ copies v)) (reordered_front news row (copies v)))
              (reordered_then (news ++ row ∷ copies v) (news ++ copies y) (copies w) (reordered_behind news (row ∷ copies v) (copies y) one) r.rows);
          sized = and_from (sum_by (λ s. s.len) i.segments == i.size) (list_all (λ z. sum_by (λ s. s.len) (what z).segments == (what z).size) items)
              (and_parts (sum_by (λ s. s.len) i.segments == i.size) true (sound u (kept_new i v) here.0).sized).0 r.sized;
          all = here.1;
        }

    pub all_fit : (items : List X) (u : Inv) → copies_cite u ≡ true → Ready items u → IsLeft (each step items u)
        → (list_all (λ x. copy_fits u (what x).pool (what x).size (what x).segments) items ≡ true) × (are_all_clear u (flat_map (λ x. (what x).segments) items) ≡ true)
    all_fit items u cite ready l =
        let w : Inv = each step items u in
        let n : ℕ = u.number in
        let object : X → ℕ = λ x. (what x).object in
        let number : X → ℕ = λ x. (what x).pool in
        let segments : X → List Segment = λ x. (what x).segments in
        let row : X → CopyRow = λ x. row_at_number n (what x) in
        let same : SameShapes u w = all_shapes items u in
        let news : List (ℕ × CopyRow) = map (λ x. (object x, row x)) items in
        let b : Brought what u n items u w = all_brought u n items u refl ready (copied_still u w same l.copied) in
        let order : IsReordered (copies w) (news ++ copies u) = reordered_back (news ++ copies u) (copies w) b.rows in
        let stay : copies u ≡ staying [] (copies u) = filter-every (copies u) in
        let came : MayCome (segments_of (staying [] (copies u))) (with_clients nothing u) (in_pools number segments items) =
        subst (λ (l : List (ℕ × Segment)). MayCome (segments_of (staying [] (copies u))) (with_clients nothing u) l) (rows_segments object number segments row (λ x. refl) (λ x. refl) items)
        (rows_came u w news (staying [] (copies u)) same l.cite l.volumes (subst (λ (c : List (ℕ × CopyRow)). IsReordered (copies w) (news ++ c)) stay order)) in
        let tests = items_back [] u number segments items cite came in
        let cited : list_all (is_cited w) (news ++ copies u) ≡ true = sym (list_all-reordered (is_cited w) (copies w) (news ++ copies u) order) ∙ l.cite in
        let pools = pools_of u w object number row (λ x. refl) same items (list_all-parts (is_cited w) news (copies u) cited).0 in
        (each_fits u items tests.0 pools b.sized, tests.1)
      where
        each_fits : (u : Inv) (items : List X) → list_all (λ x. list_all (segment_fits_after [] u (what x).pool) (what x).segments) items ≡ true → list_all (λ x. is_some (pool (what x).pool u)) items ≡ true
            → list_all (λ x. sum_by (λ s. s.len) (what x).segments == (what x).size) items ≡ true → list_all (λ x. copy_fits u (what x).pool (what x).size (what x).segments) items ≡ true
        each_fits u [] fits pools sized = refl
        each_fits u (x ∷ items) fits pools sized =
            let i : NewObject = what x in
            let fit = and_parts (list_all (segment_fits_after [] u i.pool) i.segments) (list_all (λ y. list_all (segment_fits_after [] u (what y).pool) (what y).segments) items) fits in
            let there = and_parts (is_some (pool i.pool u)) (list_all (λ y. is_some (pool (what y).pool u)) items) pools in
            let full = and_parts (sum_by (λ s. s.len) i.segments == i.size) (list_all (λ y. sum_by (λ s. s.len) (what y).segments == (what y).size) items) sized in
            and_from (copy_fits u i.pool i.size i.segments) (list_all (λ y. copy_fits u (what y).pool (what y).size (what y).segments) items)
            (and_from (is_some (pool i.pool u)) (sum_by (λ s. s.len) i.segments == i.size && list_all (segment_fits_after [] u i.pool) i.segments) there.0
            (and_from (sum_by (λ s. s.len) i.segments == i.size) (list_all (segment_fits_after [] u i.pool) i.segments) full.0 fit.0))
            (each_fits u items fit.1 there.1 full.1)

-- ---- clients' files

pub back_shapes : (filespace : ℕ) (items : List NewVersion) (v : Inv) → SameShapes v (each (back_up filespace) items v)
back_shapes filespace items v = all_shapes of_version (inserted filespace) (λ i x. refl) items v

-- the rows stand in order, and the filespace is there
abbrev versions_ready : ℕ → List NewVersion → Inv → Type 0
versions_ready filespace items v = IsOrdered v × (is_some (filespace_at filespace v.clients.filespaces) ≡ true)

versions_go_on : (filespace : ℕ) (i : NewVersion) (items : List NewVersion) (v w : Inv) → w.clients ≡ (inserted filespace i v).clients → versions_ready filespace (i ∷ items) v → versions_ready filespace items w
versions_go_on filespace i items v w same ready = (
  ordered_elsewhere (inserted filespace i v) w same (ordered_inserted filespace i v ready.0),
  ap (λ (c : Rows). is_some (filespace_at filespace c.filespaces)) same ∙ there_inserted filespace filespace i v ∙ ready.1,
)

pub versions_fit : (filespace : ℕ) (items : List NewVersion) (u : Inv) → copies_cite u ≡ true → IsOrdered u → is_some (filespace_at filespace u.clients.filespaces) ≡ true → IsLeft (each (back_up filespace) items u) → items_fit new_version_fits (λ i. i.segments) items u ≡ true
versions_fit filespace items u cite o there l =
    let f = all_fit of_version (inserted filespace) (λ i x. refl) (versions_ready filespace) (λ i is v ready. version_comes filespace i v ready.0.by_path ready.1) (versions_go_on filespace) items u cite (o, there) l in
    and_from (list_all (new_version_fits u) items) (are_all_clear u (flat_map (λ (i : NewVersion). i.segments) items)) f.0 f.1

-- ---- archived objects

pub hold_shapes : (filespace : ℕ) (items : List NewHeldObject) (v : Inv) → SameShapes v (each (hold filespace) items v)
hold_shapes filespace items v = all_shapes of_held (held_too filespace) (λ i x. refl) items v

-- held objects stand under their numbers, the filespace is there, and each object is new, and another one than the others
record HeldReady (filespace : ℕ) (items : List NewHeldObject) (v : Inv) : Type 0 where
  held : list_all (is_held_there v.clients.filespaces) v.clients.held ≡ true
  there : is_some (filespace_at filespace v.clients.filespaces) ≡ true
  fresh : list_all (λ (i : NewHeldObject). not (has_object i.object (versions v))) items ≡ true
  apart : all_later (λ (a b : NewHeldObject). not (eqb a.object b.object)) items ≡ true

first_held : (filespace : ℕ) (i : NewHeldObject) (items : List NewHeldObject) (v : Inv) → HeldReady filespace (i ∷ items) v → Comes (of_held i) v (held_too filespace i v)
first_held filespace i items v r =
    let fresh = and_parts (not (has_object i.object (versions v))) (list_all (λ (b : NewHeldObject). not (has_object b.object (versions v))) items) r.fresh in
    held_object_comes filespace i v r.held r.there (not-true (has_object i.object (versions v)) fresh.0)

held_go_on : (filespace : ℕ) (i : NewHeldObject) (items : List NewHeldObject) (v w : Inv) → w.clients ≡ (held_too filespace i v).clients → HeldReady filespace (i ∷ items) v → HeldReady filespace items w
held_go_on filespace i items v w same r =
    let u : Inv = held_too filespace i v in
    let c : Comes (of_held i) v u = first_held filespace i items v r in
    let fresh = and_parts (not (has_object i.object (versions v))) (list_all (λ (b : NewHeldObject). not (has_object b.object (versions v))) items) r.fresh in
    let apart = and_parts (list_all (λ (b : NewHeldObject). not (eqb i.object b.object)) items) (all_later (λ (a b : NewHeldObject). not (eqb a.object b.object)) items) r.apart in
    record {
      held = ap (λ (x : Rows). list_all (is_held_there x.filespaces) x.held) same ∙ held_arrived (of_held i) v u c r.held;
      there = ap (λ (x : Rows). is_some (filespace_at filespace x.filespaces)) same ∙ there_arrived filespace (of_held i) v u c ∙ r.there;
      fresh = all_both (λ (b : NewHeldObject). not (eqb i.object b.object)) (λ b. not (has_object b.object (versions v))) (λ b. not (has_object b.object (versions w)))
          (λ b ne h. ap (λ (x : Rows). not (has_object b.object (kept_of x))) same ∙ ap not (other_arrived b.object (of_held i) v u c (not-true (eqb i.object b.object) ne)) ∙ h) items apart.0 fresh.1;
      apart = apart.1;
    }

pub holds_fit : (n filespace : ℕ) (items : List NewHeldObject) (u : Inv) → copies_cite u ≡ true → VersionFacts n u → is_some (filespace_at filespace u.clients.filespaces) ≡ true → list_all (λ (i : NewHeldObject). is_new_object u i.object) items ≡ true
    → all_later (λ (a b : NewHeldObject). not (eqb a.object b.object)) items ≡ true → IsLeft (each (hold filespace) items u) → items_fit new_held_fits (λ i. i.segments) items u ≡ true
holds_fit n filespace items u cite facts there new apart l =
    let fresh : list_all (λ (i : NewHeldObject). not (has_object i.object (versions u))) items ≡ true =
    all_so (λ (i : NewHeldObject). is_new_object u i.object) (λ i. not (has_object i.object (versions u))) (λ i h. (and_parts (nat_le 1 i.object) (not (has_object i.object (versions u))) h).1) items new in
    let f = all_fit of_held (held_too filespace) (λ i x. refl) (HeldReady filespace) (first_held filespace) (held_go_on filespace) items u cite (record { held = facts.held; there = there; fresh = fresh; apart = apart }) l in
    and_from (list_all (new_held_fits u) items) (are_all_clear u (flat_map (λ (i : NewHeldObject). i.segments) items)) f.0 f.1
