-- Copies that came to a database which is valid with them fit where they came.
use Rattle.std.proofs.Common.{◌≡◌, ℕ, ◌+◌, ◌%◌, ◌<◌, ◌≤◌, Bool, true, false, cond, eqb, not, ◌&&◌, ◌||◌, List, [], ◌∷◌, ◌++◌, map, length, Option, Some, None, is_some, Ok, refl, sym, ap, subst, ◌∙◌, arith}
use Rattle.std.specs.Prelude.{◌==◌, nat_le, nat_lt, ⊤}
use Rattle.std.specs.List.{AllByRecursion, filter, flat_map, list_all, sum_by}
use Rattle.std.specs.Option.{option_map_or}
use Rattle.std.proofs.lemmas.Bool.{and_parts, and_from, eqb-true, leb-true, ltb-true, ne_eqb}
use Rattle.std.proofs.lemmas.Option.{same_Some}
use Rattle.kinds.specs.declared.segment.Segment.{Segment}
use Rattle.inventory_rules.specs.entries.change_items.declared.items.MovedCopy.{MovedCopy}
use Rattle.inventory_rules.specs.entries.change_items.declared.items.NewCopy.{NewCopy}
use Rattle.inventory_rules.specs.inventory_rows.version_groups.declared.copies.CopyChange.TheVariants as copy
use Rattle.inventory_rules.specs.inventory_rows.version_groups.declared.copies.CopyRow.{CopyRow}
use Rattle.inventory_rules.specs.inventory_rows.version_groups.declared.versions.Version.{Version}
use Rattle.inventory_rules.specs.inventory_rows.version_groups.Copies.{are_by_pool, copies_after, has_copy, with_copy, without_copy}
use Rattle.inventory_rules.specs.inventory_rows.version_groups.Entries.{all_later, is_nil}
use Rattle.inventory_rules.specs.inventory_rows.version_groups.Versions.{are_distinct, version_of}
use Rattle.inventory_rules.specs.inventory_rows.volume_rows.declared.volume.Volume.{Volume}
use Rattle.inventory_rules.proofs.of_inventory_rows.of_object_rows.Splices.{Splices}
use Rattle.inventory_rules.specs.inventory_rows.pool_tables.declared.pool.Pool.{Pool}
use Rattle.inventory_rules.specs.inventory_rows.pool_tables.Rows.{row_at}
use Rattle.inventory_rules.specs.inventory_rows.pool_rows.PoolRows.{PoolRows, is_sequential, is_sequential_at, is_sequential_row}
use Rattle.inventory_rules.specs.inventory_rows.Search.{copies, copy_in, is_primary, is_primary_kind, pool, segments_on, version, versions}
use Rattle.inventory_rules.specs.inventory_rows.State.{Inv}
use Rattle.inventory_rules.specs.Common.{each, with_clients}
use Rattle.inventory_rules.specs.Copies.{added, add_copy, added_fits, change_copy, move_copy, moved, moved_copy_fits, new_copy_fits, put_moved, replaced_fits}
use Rattle.inventory_rules.specs.Halfway.{pending_on, segments_of}
use Rattle.inventory_rules.specs.Reordered.{IsReordered}
use Rattle.inventory_rules.specs.Segments.{are_all_clear, are_clear, copy_fits_after, items_fit, leaves, lies_rightly, segment_fits_after}
use Rattle.inventory_rules.specs.Valid.{copies_cite, is_copied, is_of_pool, primary_copies, versions_are_copied, volumes_are}
use Rattle.inventory_laws.specs.Coming.{in_pool, in_pools, is_clear_of, is_clear_there, MayCome}
use Rattle.inventory_laws.specs.Kept.{is_cited, nothing, OnlyVolumes}
use Rattle.inventory_laws.proofs.Coming.{later-map, map-in_pools}
use Rattle.inventory_laws.proofs.CopyLists.{copy_comes}
use Rattle.inventory_laws.proofs.CopySteps.{comes, goes, less, more, replaces, said_replace}
use Rattle.inventory_laws.proofs.Keeping.{put_kept}
use Rattle.inventory_laws.proofs.Laid.{SameShapes, by_pool, rows_came}
use Rattle.inventory_laws.proofs.MovedRows.{filter-every, is_going, left_of, one_matches, parted, matches, staying}
use Rattle.inventory_laws.proofs.Moves.{replaced_rows}
use Rattle.inventory_laws.proofs.Orders.{list_all-reordered, reordered_back}
use Rattle.inventory_laws.proofs.Recopied as recopied
use Rattle.inventory_laws.proofs.Spliced.{all_gone, splice_filter, splice_length, turned}
use Rattle.inventory_laws.proofs.Swapping.{on_file, pending-segments_of}
use Rattle.inventory_laws.proofs.VolumeItems.{moved_kept, moves_kept}
use Rattle.inventory_laws.proofs.VolumeRows.{all_both, all_so, list_all-append, list_all-parts}

-- ---- a segment that lies rightly and is clear of what stays fits

let_one : (moved : List MovedCopy) (file n object : ℕ) (p : ℕ × Segment → Bool) (volumes : List (ℕ × Volume)) (w : Volume) → row_at file volumes ≡ Some w → w.pool ≡ n → (number : ℕ) (segments : List Segment)
    → leaves moved number object ≡ true → list_all (λ s. is_of_pool number (row_at s.file volumes)) segments ≡ true
    → list_all (λ e. leaves moved n e.0 || p e) (map (λ s. (object, s)) (filter (λ s. s.file == file) segments)) ≡ true
let_one moved file n object p volumes w found of number [] going cite = refl
let_one moved file n object p volumes w found of number (s ∷ segments) going cite =
    let here = and_parts (is_of_pool number (row_at s.file volumes)) (list_all (λ s. is_of_pool number (row_at s.file volumes)) segments) cite in
    let more : list_all (λ e. leaves moved n e.0 || p e) (map (λ s. (object, s)) (filter (λ s. s.file == file) segments)) ≡ true = let_one moved file n object p volumes w found of number segments going here.1 in
    elim (eqb s.file file) as (λ b. eqb s.file file ≡ b → list_all (λ e. leaves moved n e.0 || p e) (map (λ s. (object, s)) (cond {A = List Segment} b (s ∷ filter (λ s. s.file == file) segments) (filter (λ s. s.file == file) segments))) ≡ true) [
      | true ↦ λ on.
          let there : row_at s.file volumes ≡ Some w = ap (λ k. row_at k volumes) (eqb-true s.file file on) ∙ found in
          let same : n ≡ number = sym of ∙ eqb-true w.pool number (sym (ap (is_of_pool number) there) ∙ here.0) in
          and_from (leaves moved n object || p (object, s)) (list_all (λ e. leaves moved n e.0 || p e) (map (λ (t : Segment). (object, t)) (filter (λ s. s.file == file) segments)))
          (ap (λ b. b || p (object, s)) (ap (λ k. leaves moved k object) same ∙ going)) more
      | false ↦ λ off. more
    ] refl

or_second : (a b : Bool) → b ≡ true → (a || b) ≡ true
or_second true b h = refl
or_second false b h = h

let_rows : (moved : List MovedCopy) (file n : ℕ) (p : ℕ × Segment → Bool) (v : Inv) (w : Volume) → row_at file v.stores.volumes ≡ Some w → w.pool ≡ n → (rows : List (ℕ × CopyRow)) → list_all (is_cited v) rows ≡ true
    → list_all p (on_file file (staying moved rows)) ≡ true → list_all (λ e. leaves moved n e.0 || p e) (on_file file rows) ≡ true
let_rows moved file n p v w found of [] cite h = refl
let_rows moved file n p v w found of (e ∷ rows) cite h =
    let here : List (ℕ × Segment) = map (λ (s : Segment). (e.0, s)) (filter (λ s. s.file == file) e.1.segments) in
    let cited = and_parts (is_cited v e) (list_all (is_cited v) rows) cite in
    let its = and_parts (is_some (pool e.1.pool v)) (list_all (λ s. is_of_pool e.1.pool (row_at s.file v.stores.volumes)) e.1.segments) cited.0 in
    elim (is_going moved e) as (λ b. is_going moved e ≡ b → list_all p (on_file file (cond {A = List (ℕ × CopyRow)} (not b) (e ∷ staying moved rows) (staying moved rows))) ≡ true → list_all (λ e. leaves moved n e.0 || p e) (here ++ on_file file rows) ≡ true) [
      | true ↦ λ going t.
          list_all-append (λ e. leaves moved n e.0 || p e) here (on_file file rows) (let_one moved file n e.0 p v.stores.volumes w found of e.1.pool e.1.segments going its.1) (let_rows moved file n p v w found of rows cited.1 t)
      | false ↦ λ stays t.
          let parts = list_all-parts p here (on_file file (staying moved rows)) t in
          list_all-append (λ e. leaves moved n e.0 || p e) here (on_file file rows) (all_so p (λ e. leaves moved n e.0 || p e) (λ x k. or_second (leaves moved n x.0) (p x) k) here parts.0) (let_rows moved file n p v w found of rows cited.1 parts.1)
    ] refl h

segment_back : (moved : List MovedCopy) (u : Inv) (n : ℕ) (s : Segment) → copies_cite u ≡ true → lies_rightly (is_sequential_at s.file u.stores) n s (row_at s.file u.stores.volumes) ≡ true
    → is_clear_there (segments_of (staying moved (copies u))) (with_clients nothing u) s ≡ true → segment_fits_after moved u n s ≡ true
segment_back moved u n s cite lies clear = go (row_at s.file u.stores.volumes) refl lies where
  go : (o : Option Volume) → row_at s.file u.stores.volumes ≡ o → lies_rightly (is_sequential_at s.file u.stores) n s o ≡ true → segment_fits_after moved u n s ≡ true
  go None found t = absurd cc
  go (Some w) found t =
      let of : w.pool ≡ n = eqb-true w.pool n (and_parts (w.pool == n) (nat_le (s.offset + 32 + s.len) w.capacity && (is_sequential_at s.file u.stores || s.offset % 4096 == 0)) t).0 in
      let kind : is_sequential_at s.file u.stores ≡ is_sequential n u.stores = ap (is_sequential_row u.stores) found ∙ ap (λ k. is_sequential k u.stores) of in
      let q : Bool = is_sequential n u.stores in
      let free : list_all (λ e. are_clear q s e.1) (on_file s.file (staying moved (copies u))) ≡ true =
      ap (list_all (λ e. are_clear q s e.1)) (sym (pending-segments_of s.file (staying moved (copies u))))
      ∙ ap (λ b. list_all (λ (e : ℕ × Segment). are_clear b s e.1) (pending_on s.file (segments_of (staying moved (copies u))))) (sym kind) ∙ clear in
      and_from (lies_rightly q n s (row_at s.file u.stores.volumes)) (list_all (λ e. leaves moved n e.0 || are_clear q s e.1) (segments_on s.file u))
      (ap (λ b. lies_rightly b n s (row_at s.file u.stores.volumes)) (sym kind) ∙ lies)
      (let_rows moved s.file n (λ e. are_clear q s e.1) u w found of (copies u) cite free)

-- ---- the segments of items

in_pool_all : (p : ℕ × Segment → Bool) (n : ℕ) (segments : List Segment) → list_all p (in_pool n segments) ≡ true → list_all (λ s. p (n, s)) segments ≡ true
in_pool_all p n [] h = refl
in_pool_all p n (s ∷ segments) h =
    let parts = and_parts (p (n, s)) (list_all p (in_pool n segments)) h in
    and_from (p (n, s)) (list_all (λ s. p (n, s)) segments) parts.0 (in_pool_all p n segments parts.1)

in_pools_all : {X : Type 0} (number : X → ℕ) (segments : X → List Segment) (p : ℕ × Segment → Bool) (items : List X) → list_all p (in_pools number segments items) ≡ true → list_all (λ i. list_all (λ s. p (number i, s)) (segments i)) items ≡ true
in_pools_all number segments p [] h = refl
in_pools_all number segments p (i ∷ items) h =
    let parts = list_all-parts p (in_pool (number i) (segments i)) (in_pools number segments items) h in
    and_from (list_all (λ s. p (number i, s)) (segments i)) (list_all (λ i. list_all (λ s. p (number i, s)) (segments i)) items) (in_pool_all p (number i) (segments i) parts.0) (in_pools_all number segments p items parts.1)

pub items_back : {X : Type 0} (moved : List MovedCopy) (u : Inv) (number : X → ℕ) (segments : X → List Segment) (items : List X) → copies_cite u ≡ true
    → MayCome (segments_of (staying moved (copies u))) (with_clients nothing u) (in_pools number segments items)
    → (list_all (λ i. list_all (segment_fits_after moved u (number i)) (segments i)) items ≡ true) × (are_all_clear u (flat_map segments items) ≡ true)
items_back moved u number segments items cite m = (
  in_pools_all number segments (λ e. segment_fits_after moved u e.0 e.1) items
      (all_both (λ (e : ℕ × Segment). lies_rightly (is_sequential_at e.1.file u.stores) e.0 e.1 (row_at e.1.file u.stores.volumes)) (λ e. is_clear_there (segments_of (staying moved (copies u))) (with_clients nothing u) e.1) (λ e. segment_fits_after moved u e.0 e.1)
      (λ e a b. segment_back moved u e.0 e.1 cite a b) (in_pools number segments items) m.lie m.clear),
  ap (all_later (is_clear_of u)) (sym (map-in_pools number segments items)) ∙ later-map (λ (e : ℕ × Segment). e.1) (is_clear_of u) (in_pools number segments items) ∙ m.apart,
)

-- ---- versions, by the pools

abbrev copied_by : List (ℕ × Pool) → Version → Bool
copied_by pools x =
    not (is_nil x.copies)
    && (nat_le (length (filter (λ (c : CopyRow). option_map_or (λ (p : Pool). is_primary_kind p.kind) (row_at c.pool pools) false) x.copies)) 1
    && (are_by_pool x.copies
    && list_all (λ c. sum_by (λ s. s.len) c.segments == x.size) x.copies))

pub copied_still : (u w : Inv) → SameShapes u w → versions_are_copied w ≡ true → list_all (is_copied u) (versions w) ≡ true
copied_still u w same h = ap (λ (ps : List (ℕ × Pool)). list_all (copied_by ps) (versions w)) (sym (ap (λ s. s.pools) same.stores)) ∙ h

-- what is said of a version's copies
pub record IsSound (u : Inv) (size : ℕ) (cs : List CopyRow) : Type 0 where
  pub few : nat_le (length (filter (λ (c : CopyRow). is_primary c.pool u) cs)) 1 ≡ true
  pub by_pool : are_by_pool cs ≡ true
  pub sized : list_all (λ c. sum_by (λ s. s.len) c.segments == size) cs ≡ true

pub sound : (u : Inv) (x : Version) → is_copied u x ≡ true → IsSound u x.size x.copies
sound u x h =
    let few : Bool = nat_le (length (primary_copies u x)) 1 in
    let sizes : Bool = list_all (λ c. sum_by (λ s. s.len) c.segments == x.size) x.copies in
    let one = and_parts (not (is_nil x.copies)) (few && (are_by_pool x.copies && sizes)) h in
    let two = and_parts few (are_by_pool x.copies && sizes) one.1 in
    let three = and_parts (are_by_pool x.copies) sizes two.1 in
    record { few = two.0; by_pool = three.0; sized = three.1 }

pub new_sized : (u : Inv) (size : ℕ) (new : CopyRow) (cs : List CopyRow) → IsSound u size (with_copy new cs) → (sum_by (λ s. s.len) new.segments == size) ≡ true
new_sized u size new cs h =
    (and_parts (sum_by (λ s. s.len) new.segments == size) true (all_gone (λ (c : CopyRow). sum_by (λ s. s.len) c.segments == size) (turned (copy_comes new cs)) h.sized)).0

nil_of_none : {A : Type 0} (xs : List A) → length xs ≤ 0 → is_nil xs ≡ true
nil_of_none [] h = refl
nil_of_none (x ∷ xs) h = absurd (omega (arith, h))

pub new_primary : (u : Inv) (size : ℕ) (new : CopyRow) (cs : List CopyRow) → IsSound u size (with_copy new cs) → (not (is_primary new.pool u) || is_nil (filter (λ (c : CopyRow). is_primary c.pool u) cs)) ≡ true
new_primary u size new cs h =
    let test : CopyRow → Bool = λ (c : CopyRow). is_primary c.pool u in
    let long : length (filter test (with_copy new cs)) + length {A = CopyRow} [] ≡ length (filter test cs) + length (filter test (new ∷ [])) = splice_length (splice_filter test (copy_comes new cs)) in
    let most : length (filter test (with_copy new cs)) ≤ 1 = leb-true (length (filter test (with_copy new cs))) 1 h.few in
    elim (is_primary new.pool u) as (λ b. length (filter test (with_copy new cs)) + length {A = CopyRow} [] ≡ length (filter test cs) + length (cond {A = List CopyRow} b (new ∷ []) []) → (not b || is_nil (filter test cs)) ≡ true) [
      | true ↦ λ e. nil_of_none (filter test cs) (omega (arith, e, most))
      | false ↦ λ e. refl
    ] long

-- ---- volumes with the same shapes

pub same_shapes : (v : Inv) → SameShapes v v
same_shapes v = record { stores = refl; shapes = λ file. refl }

with_volumes_of : Inv → PoolRows → PoolRows
with_volumes_of c x = record x { volumes = c.stores.volumes }

pub shapes_then : (a b c : Inv) → SameShapes a b → SameShapes b c → SameShapes a c
unfolding with_volumes_of
shapes_then a b c s t = record {
  stores = t.stores ∙ ap (with_volumes_of c) s.stores;
  shapes = λ file. t.shapes file ∙ s.shapes file;
}

pub shapes_of : (v w : Inv) → OnlyVolumes v w → SameShapes v w
shapes_of v w k = record { stores = ap (λ (x : Inv). x.stores) k.only; shapes = k.shapes }

pool_still : (u w : Inv) (n : ℕ) → SameShapes u w → pool n w ≡ pool n u
pool_still u w n same = ap (λ (ps : List (ℕ × Pool)). row_at n ps) (ap (λ s. s.pools) same.stores)

-- ---- versions that are found

pub found_passes : (p : Version → Bool) (k : ℕ) (vs : List Version) (x : Version) → list_all p vs ≡ true → version_of k vs ≡ Some x → p x ≡ true
found_passes p k [] x h found = absurd cc
found_passes p k (w ∷ vs) x h found =
    let parts = and_parts (p w) (list_all p vs) h in
    elim (eqb w.object k) as (λ b. cond {A = Option Version} b (Some w) (version_of k vs) ≡ Some x → p x ≡ true) [
      | true ↦ λ t. subst (λ (y : Version). p y ≡ true) (same_Some w x t) parts.0
      | false ↦ λ t. found_passes p k vs x parts.1 t
    ] found

-- what is cited of new copies: their pools are there
pub pools_of : {X : Type 0} (u w : Inv) (object pool_of : X → ℕ) (row : X → CopyRow) → ((i : X) → (row i).pool ≡ pool_of i) → SameShapes u w → (items : List X) → list_all (is_cited w) (map (λ i. (object i, row i)) items) ≡ true → list_all (λ i. is_some (pool (pool_of i) u)) items ≡ true
pools_of u w object pool_of row is same [] h = refl
pools_of u w object pool_of row is same (i ∷ items) h =
    let parts = and_parts (is_cited w (object i, row i)) (list_all (is_cited w) (map (λ i. (object i, row i)) items)) h in
    let its = and_parts (is_some (pool (row i).pool w)) (list_all (λ s. is_of_pool (row i).pool (row_at s.file w.stores.volumes)) (row i).segments) parts.0 in
    and_from (is_some (pool (pool_of i) u)) (list_all (λ i. is_some (pool (pool_of i) u)) items)
    (ap (λ o. is_some o) (sym (pool_still u w (pool_of i) same)) ∙ ap (λ n. is_some (pool n w)) (sym (is i)) ∙ its.0) (pools_of u w object pool_of row is same items parts.1)

-- ---- new copies

abbrev copy_row : ℕ → NewCopy → CopyRow
copy_row n i = record { pool = i.pool; placed = n + 1; segments = i.segments }

-- no copy goes where one is made
abbrev pub no_left : NewCopy → Version → List (ℕ × CopyRow)
no_left i x = []

copy_order : (n : ℕ) (i : NewCopy) (x : Version) → x.object ≡ i.object → IsReordered {A = ℕ × CopyRow} ((i.object, copy_row n i) ∷ map (λ (c : CopyRow). (x.object, c)) x.copies) (map (λ (c : CopyRow). (x.object, c)) (with_copy (copy_row n i) x.copies))
copy_order n i x is =
    subst (λ k. IsReordered {A = ℕ × CopyRow} ((k, copy_row n i) ∷ map (λ (c : CopyRow). (x.object, c)) x.copies) (map (λ (c : CopyRow). (x.object, c)) (with_copy (copy_row n i) x.copies))) is
    (more (x.object, copy_row n i) (comes x.object (copy_row n i) x.copies))

abbrev copy_kept : (i : NewCopy) (v : Inv) → OnlyVolumes (change_copy i.object (added i v) v) (add_copy i v)
copy_kept i v = put_kept i.object i.segments (change_copy i.object (added i v) v)

pub copies_shapes : (items : List NewCopy) (v : Inv) → SameShapes v (each add_copy items v)
copies_shapes [] v = same_shapes v
copies_shapes (i ∷ items) v =
    let k : OnlyVolumes (change_copy i.object (added i v) v) (add_copy i v) = copy_kept i v in
    shapes_then v (add_copy i v) (each add_copy items (add_copy i v)) (record { stores = ap (λ (x : Inv). x.stores) k.only; shapes = k.shapes }) (copies_shapes items (add_copy i v))

-- what the item of a copy finds
abbrev pub IsFound : Inv → ℕ → Type 0
IsFound v object = (x : Version) × (version object v ≡ Some x)

copy_finds : (u : Inv) (items : List NewCopy) → list_all (is_copied u) (versions u) ≡ true → AllByRecursion (λ i. IsFound u i.object) items
    → AllByRecursion (recopied.Finds (λ (i : NewCopy). i.object) (λ n i. copy.Add (copy_row n i)) add_copy copy_row no_left (λ n i x. with_copy (copy_row n i) x.copies) (λ i x. ⊤) (λ n i x h. refl) (λ n i x h is. copy_order n i x is) copy_kept (is_copied u) u) items
copy_finds u [] all h = tt
copy_finds u (i ∷ items) all h = (record { old = h.0.0; there = h.0.1; has = tt; passes = found_passes (is_copied u) i.object (versions u) h.0.0 all h.0.1 }, copy_finds u items all h.1)

copies_fit_each : (u : Inv) (n : ℕ) (items : List NewCopy) → list_all (λ i. list_all (segment_fits_after [] u i.pool) i.segments) items ≡ true → list_all (λ i. is_some (pool i.pool u)) items ≡ true
    → AllByRecursion (recopied.Passes (λ (i : NewCopy). i.object) (λ n i. copy.Add (copy_row n i)) add_copy copy_row no_left (λ n i x. with_copy (copy_row n i) x.copies) (λ i x. ⊤) (λ n i x h. refl) (λ n i x h is. copy_order n i x is) copy_kept (is_copied u) n u) items
    → list_all (new_copy_fits u) items ≡ true
copies_fit_each u n [] fits pools h = refl
copies_fit_each u n (i ∷ items) fits pools h =
    let fit = and_parts (list_all (segment_fits_after [] u i.pool) i.segments) (list_all (λ i. list_all (segment_fits_after [] u i.pool) i.segments) items) fits in
    let there = and_parts (is_some (pool i.pool u)) (list_all (λ i. is_some (pool i.pool u)) items) pools in
    let x : Version = h.0.old in
    let s : IsSound u x.size (with_copy (copy_row n i) x.copies) = sound u (record x { copies = with_copy (copy_row n i) x.copies }) h.0.now in
    let one : added_fits u i x ≡ true =
    and_from (copy_fits_after [] u i.pool x.size i.segments) (not (is_primary i.pool u) || is_nil (primary_copies u x))
    (and_from (is_some (pool i.pool u)) (sum_by (λ s. s.len) i.segments == x.size && list_all (segment_fits_after [] u i.pool) i.segments) there.0
    (and_from (sum_by (λ s. s.len) i.segments == x.size) (list_all (segment_fits_after [] u i.pool) i.segments) (new_sized u x.size (copy_row n i) x.copies s) fit.0))
    (new_primary u x.size (copy_row n i) x.copies s) in
    and_from (new_copy_fits u i) (list_all (new_copy_fits u) items) (ap (λ (o : Option Version). option_map_or (λ w. added_fits u i w) o false) h.0.there ∙ one) (copies_fit_each u n items fit.1 there.1 h.1)

-- the segments of rows that are made of items
pub rows_segments : {X : Type 0} (object number : X → ℕ) (segments : X → List Segment) (row : X → CopyRow) → ((i : X) → (row i).pool ≡ number i) → ((i : X) → (row i).segments ≡ segments i) → (items : List X) → by_pool (map (λ i. (object i, row i)) items) ≡ in_pools number segments items
rows_segments object number segments row a b [] = refl
rows_segments object number segments row a b (i ∷ items) =
    ap (λ n. in_pool n (row i).segments ++ by_pool (map (λ i. (object i, row i)) items)) (a i) ∙ ap (λ ss. in_pool (number i) ss ++ by_pool (map (λ i. (object i, row i)) items)) (b i)
    ∙ ap (λ l. in_pool (number i) (segments i) ++ l) (rows_segments object number segments row a b items)

-- a database that is valid with the copies
pub record IsLeft (w : Inv) : Type 0 where
  pub cite : copies_cite w ≡ true
  pub copied : versions_are_copied w ≡ true
  pub volumes : volumes_are w ≡ true

pub copies_fit : (items : List NewCopy) (u : Inv) → copies_cite u ≡ true → versions_are_copied u ≡ true → are_distinct (versions u) ≡ true → all_later (λ (i j : NewCopy). not (eqb i.object j.object)) items ≡ true → AllByRecursion (λ i. IsFound u i.object) items
    → IsLeft (each add_copy items u) → items_fit new_copy_fits (λ i. i.segments) items u ≡ true
copies_fit items u cite copied distinct once found l =
    let w : Inv = each add_copy items u in
    let n : ℕ = u.number in
    let same : SameShapes u w = copies_shapes items u in
    let news : List (ℕ × CopyRow) = map (λ (i : NewCopy). (i.object, copy_row n i)) items in
    let b : recopied.AllBack (λ (i : NewCopy). i.object) (λ n i. copy.Add (copy_row n i)) add_copy copy_row no_left (λ n i x. with_copy (copy_row n i) x.copies) (λ i x. ⊤) (λ n i x h. refl) (λ n i x h is. copy_order n i x is) copy_kept (is_copied u) items u w =
    recopied.all_back (λ (i : NewCopy). i.object) (λ n i. copy.Add (copy_row n i)) add_copy copy_row no_left (λ n i x. with_copy (copy_row n i) x.copies) (λ i x. ⊤) (λ n i x h. refl) (λ n i x h is. copy_order n i x is) copy_kept (is_copied u)
    items u distinct once (copy_finds u items copied found) (copied_still u w same l.copied) in
    let none : flat_map (λ (i : NewCopy). option_map_or (no_left i) (version i.object u) []) items ≡ [] = no_rows items in
    let order : IsReordered (copies w) (news ++ copies u) = reordered_back (news ++ copies u) (copies w) (subst (λ (l : List (ℕ × CopyRow)). IsReordered (news ++ copies u) (l ++ copies w)) none b.rows) in
    let stay : copies u ≡ staying [] (copies u) = filter-every (copies u) in
    let came : MayCome (segments_of (staying [] (copies u))) (with_clients nothing u) (in_pools (λ (i : NewCopy). i.pool) (λ i. i.segments) items) =
    subst (λ (l : List (ℕ × Segment)). MayCome (segments_of (staying [] (copies u))) (with_clients nothing u) l) (rows_segments (λ (i : NewCopy). i.object) (λ i. i.pool) (λ i. i.segments) (copy_row n) (λ i. refl) (λ i. refl) items)
    (rows_came u w news (staying [] (copies u)) same l.cite l.volumes (subst (λ (c : List (ℕ × CopyRow)). IsReordered (copies w) (news ++ c)) stay order)) in
    let tests = items_back [] u (λ (i : NewCopy). i.pool) (λ i. i.segments) items cite came in
    let cited : list_all (is_cited w) (news ++ copies u) ≡ true = sym (list_all-reordered (is_cited w) (copies w) (news ++ copies u) order) ∙ l.cite in
    let pools = pools_of u w (λ (i : NewCopy). i.object) (λ i. i.pool) (copy_row n) (λ i. refl) same items (list_all-parts (is_cited w) news (copies u) cited).0 in
    and_from (list_all (new_copy_fits u) items) (are_all_clear u (flat_map (λ (i : NewCopy). i.segments) items)) (copies_fit_each u n items tests.0 pools b.each) tests.1
  where
    no_rows : (is : List NewCopy) → flat_map (λ (i : NewCopy). option_map_or (no_left i) (version i.object u) []) is ≡ []
    no_rows [] = refl
    no_rows (i ∷ is) = elim (version i.object u) as (λ o. option_map_or (no_left i) o [] ++ flat_map (λ (i : NewCopy). option_map_or (no_left i) (version i.object u) []) is ≡ []) [ None ↦ no_rows is | Some x ↦ no_rows is ]

-- ---- copies that move

abbrev move_row : ℕ → MovedCopy → CopyRow
move_row n i = record { pool = i.pool; placed = n + 1; segments = i.segments }

abbrev left_in : MovedCopy → Version → List (ℕ × CopyRow)
left_in i x = option_map_or (λ c. (i.object, c) ∷ []) (copy_in i.from x) []

abbrev after_move : ℕ → MovedCopy → Version → List CopyRow
after_move n i x = with_copy (move_row n i) (without_copy i.from x.copies)

-- the copy that moves is there
pub record Leaves (i : MovedCopy) (x : Version) : Type 0 where
  pub old : CopyRow
  pub held : copy_in i.from x ≡ Some old
  pub ordered : are_by_pool x.copies ≡ true

move_order : (n : ℕ) (i : MovedCopy) (x : Version) → Leaves i x → x.object ≡ i.object → IsReordered {A = ℕ × CopyRow} ((i.object, move_row n i) ∷ map (λ (c : CopyRow). (x.object, c)) x.copies) (left_in i x ++ map (λ (c : CopyRow). (x.object, c)) (after_move n i x))
move_order n i x h is =
    let fewer : List CopyRow = without_copy i.from x.copies in
    let out : IsReordered (map (λ (c : CopyRow). (x.object, c)) x.copies) ((x.object, h.old) ∷ map (λ (c : CopyRow). (x.object, c)) fewer) = less (x.object, h.old) (goes x.object i.from x.copies h.old h.ordered h.held) in
    let into : IsReordered {A = ℕ × CopyRow} ((x.object, move_row n i) ∷ map (λ (c : CopyRow). (x.object, c)) fewer) (map (λ (c : CopyRow). (x.object, c)) (after_move n i x)) = more (x.object, move_row n i) (comes x.object (move_row n i) fewer) in
    let both : IsReordered {A = ℕ × CopyRow} ((x.object, move_row n i) ∷ map (λ (c : CopyRow). (x.object, c)) x.copies) ((x.object, h.old) ∷ map (λ (c : CopyRow). (x.object, c)) (after_move n i x)) =
    replaces (x.object, move_row n i) (x.object, h.old) (map (λ (c : CopyRow). (x.object, c)) x.copies) (map (λ (c : CopyRow). (x.object, c)) fewer) (map (λ (c : CopyRow). (x.object, c)) (after_move n i x)) out into in
    let named : IsReordered {A = ℕ × CopyRow} ((i.object, move_row n i) ∷ map (λ (c : CopyRow). (x.object, c)) x.copies) ((i.object, h.old) ∷ map (λ (c : CopyRow). (x.object, c)) (after_move n i x)) =
    subst (λ k. IsReordered {A = ℕ × CopyRow} ((k, move_row n i) ∷ map (λ (c : CopyRow). (x.object, c)) x.copies) ((k, h.old) ∷ map (λ (c : CopyRow). (x.object, c)) (after_move n i x))) is both in
    subst (λ (o : Option CopyRow). IsReordered {A = ℕ × CopyRow} ((i.object, move_row n i) ∷ map (λ (c : CopyRow). (x.object, c)) x.copies) (option_map_or (λ c. (i.object, c) ∷ []) o [] ++ map (λ (c : CopyRow). (x.object, c)) (after_move n i x))) (sym h.held) named

move_said : (n : ℕ) (i : MovedCopy) (x : Version) → Leaves i x → copies_after (copy.Replace i.from (move_row n i)) x.copies ≡ Ok (after_move n i x)
move_said n i x h = said_replace i.from (move_row n i) x.copies h.old h.held

pub move_shapes : (items : List MovedCopy) (v : Inv) → SameShapes v (each move_copy items v)
move_shapes [] v = same_shapes v
move_shapes (i ∷ items) v =
    let k : OnlyVolumes (change_copy i.object (moved i v) v) (move_copy i v) = moves_kept i v in
    shapes_then v (move_copy i v) (each move_copy items (move_copy i v)) (record { stores = ap (λ (x : Inv). x.stores) k.only; shapes = k.shapes }) (move_shapes items (move_copy i v))

-- a copy that comes into its place by pool had none in its pool
none_in_pool : (new : CopyRow) (before after : List CopyRow) → are_by_pool (before ++ new ∷ after) ≡ true → has_copy new.pool (before ++ after) ≡ false
none_in_pool new [] after h = behind after (and_parts (list_all (λ (d : CopyRow). nat_lt new.pool d.pool) after) (are_by_pool after) h).0 where
  behind : (cs : List CopyRow) → list_all (λ (d : CopyRow). nat_lt new.pool d.pool) cs ≡ true → has_copy new.pool cs ≡ false
  behind [] t = refl
  behind (c ∷ cs) t =
      let parts = and_parts (nat_lt new.pool c.pool) (list_all (λ (d : CopyRow). nat_lt new.pool d.pool) cs) t in
      let less : new.pool < c.pool = ltb-true new.pool c.pool parts.0 in
      ap (λ b. b || has_copy new.pool cs) (ne_eqb c.pool new.pool (λ e. absurd (omega (arith, less, e)))) ∙ behind cs parts.1
none_in_pool new (b ∷ before) after h =
    let parts = and_parts (list_all (λ (d : CopyRow). nat_lt b.pool d.pool) (before ++ new ∷ after)) (are_by_pool (before ++ new ∷ after)) h in
    let here = and_parts (nat_lt b.pool new.pool) (list_all (λ (d : CopyRow). nat_lt b.pool d.pool) after) (list_all-parts (λ (d : CopyRow). nat_lt b.pool d.pool) before (new ∷ after) parts.0).1 in
    let less : b.pool < new.pool = ltb-true b.pool new.pool here.0 in
    ap (λ t. t || has_copy new.pool (before ++ after)) (ne_eqb b.pool new.pool (λ e. absurd (omega (arith, less, e)))) ∙ none_in_pool new before after parts.1

new_alone : (new : CopyRow) (cs : List CopyRow) → are_by_pool (with_copy new cs) ≡ true → not (has_copy new.pool cs) ≡ true
new_alone new cs h =
    let s : Splices [] (new ∷ []) cs (with_copy new cs) = copy_comes new cs in
    ap not (ap (has_copy new.pool) s.was ∙ none_in_pool new s.before s.after (sym (ap are_by_pool s.becomes) ∙ h))

-- where no primary copy is left without those of a pool, all lie in that pool
all_in_pool : (u : Inv) (from : ℕ) (cs : List CopyRow) → is_nil (filter (λ (c : CopyRow). is_primary c.pool u) (without_copy from cs)) ≡ true → list_all (λ (c : CopyRow). eqb c.pool from) (filter (λ (c : CopyRow). is_primary c.pool u) cs) ≡ true
all_in_pool u from [] h = refl
all_in_pool u from (c ∷ cs) h =
    let test : CopyRow → Bool = λ (c : CopyRow). is_primary c.pool u in
    go test (is_primary c.pool u) (eqb c.pool from) refl refl (all_in_pool u from cs) h
  where
    go : (test : CopyRow → Bool) (p q : Bool) → test c ≡ p → eqb c.pool from ≡ q → (is_nil (filter test (without_copy from cs)) ≡ true → list_all (λ (c : CopyRow). eqb c.pool from) (filter test cs) ≡ true)
        → is_nil (filter test (cond {A = List CopyRow} (not (eqb c.pool from)) (c ∷ without_copy from cs) (without_copy from cs))) ≡ true → list_all (λ (c : CopyRow). eqb c.pool from) (cond {A = List CopyRow} (test c) (c ∷ filter test cs) (filter test cs)) ≡ true
    go test p true a b more t =
        let left : is_nil (filter test (without_copy from cs)) ≡ true = sym (ap (λ x. is_nil (filter test (cond {A = List CopyRow} (not x) (c ∷ without_copy from cs) (without_copy from cs)))) b) ∙ t in
        all_cond p (ap (λ x. list_all (λ (c : CopyRow). eqb c.pool from) (cond {A = List CopyRow} x (c ∷ filter test cs) (filter test cs))) a) b (more left)
      where
        all_cond : (p : Bool) → list_all (λ (c : CopyRow). eqb c.pool from) (cond {A = List CopyRow} (test c) (c ∷ filter test cs) (filter test cs)) ≡ list_all (λ (c : CopyRow). eqb c.pool from) (cond {A = List CopyRow} p (c ∷ filter test cs) (filter test cs)) → eqb c.pool from ≡ true
            → list_all (λ (c : CopyRow). eqb c.pool from) (filter test cs) ≡ true → list_all (λ (c : CopyRow). eqb c.pool from) (cond {A = List CopyRow} (test c) (c ∷ filter test cs) (filter test cs)) ≡ true
        all_cond true e on r = e ∙ and_from (eqb c.pool from) (list_all (λ (c : CopyRow). eqb c.pool from) (filter test cs)) on r
        all_cond false e on r = e ∙ r
    go test true false a b more t =
        absurd (let clash : false ≡ true = sym (ap (λ x. is_nil (filter test (cond {A = List CopyRow} (not x) (c ∷ without_copy from cs) (without_copy from cs)))) b ∙ ap (λ x. is_nil (cond {A = List CopyRow} x (c ∷ filter test (without_copy from cs)) (filter test (without_copy from cs)))) a) ∙ t in cc)
    go test false false a b more t =
        let left : is_nil (filter test (without_copy from cs)) ≡ true =
        sym (ap (λ x. is_nil (filter test (cond {A = List CopyRow} (not x) (c ∷ without_copy from cs) (without_copy from cs)))) b ∙ ap (λ x. is_nil (cond {A = List CopyRow} x (c ∷ filter test (without_copy from cs)) (filter test (without_copy from cs)))) a) ∙ t in
        ap (λ x. list_all (λ (c : CopyRow). eqb c.pool from) (cond {A = List CopyRow} x (c ∷ filter test cs) (filter test cs))) a ∙ more left

either_more : (b none all : Bool) → (not b || none) ≡ true → (none ≡ true → all ≡ true) → (not b || all) ≡ true
either_more true none all h f = f h
either_more false none all h f = refl

module _ (test : Version → Bool) where
  abbrev FindsMove : Inv → MovedCopy → Type 0
  FindsMove v i = recopied.Finds (λ (i : MovedCopy). i.object) (λ n i. copy.Replace i.from (move_row n i)) move_copy move_row left_in after_move Leaves move_said move_order moves_kept test v i

  abbrev PassesMove : ℕ → Inv → MovedCopy → Type 0
  PassesMove n v i = recopied.Passes (λ (i : MovedCopy). i.object) (λ n i. copy.Replace i.from (move_row n i)) move_copy move_row left_in after_move Leaves move_said move_order moves_kept test n v i

-- what the item of a move finds
pub record IsMoved (v : Inv) (i : MovedCopy) : Type 0 where
  pub its : Version
  pub there : version i.object v ≡ Some its
  pub old : CopyRow
  pub held : copy_in i.from its ≡ Some old

move_finds : (u v : Inv) (items : List MovedCopy) → list_all (is_copied u) (versions v) ≡ true → AllByRecursion (IsMoved v) items → AllByRecursion (FindsMove (is_copied u) v) items
move_finds u v [] all h = tt
move_finds u v (i ∷ items) all h =
    let passes : is_copied u h.0.its ≡ true = found_passes (is_copied u) i.object (versions v) h.0.its all h.0.there in
    (record { old = h.0.its; there = h.0.there; has = record { old = h.0.old; held = h.0.held; ordered = (sound u h.0.its passes).by_pool }; passes = passes }, move_finds u v items all h.1)

moves_fit_each : (moved : List MovedCopy) (u v : Inv) (n : ℕ) (items : List MovedCopy) → versions v ≡ versions u → list_all (λ i. list_all (segment_fits_after moved u i.pool) i.segments) items ≡ true → list_all (λ i. is_some (pool i.pool u)) items ≡ true
    → AllByRecursion (PassesMove (is_copied u) n v) items → list_all (moved_copy_fits moved u) items ≡ true
moves_fit_each moved u v n [] same fits pools h = refl
moves_fit_each moved u v n (i ∷ items) same fits pools h =
    let fit = and_parts (list_all (segment_fits_after moved u i.pool) i.segments) (list_all (λ i. list_all (segment_fits_after moved u i.pool) i.segments) items) fits in
    let there = and_parts (is_some (pool i.pool u)) (list_all (λ i. is_some (pool i.pool u)) items) pools in
    let x : Version = h.0.old in
    let fewer : List CopyRow = without_copy i.from x.copies in
    let s : IsSound u x.size (after_move n i x) = sound u (record x { copies = after_move n i x }) h.0.now in
    let alone : (not (is_primary i.pool u) || list_all (λ (c : CopyRow). eqb c.pool i.from) (primary_copies u x)) ≡ true =
    either_more (is_primary i.pool u) (is_nil (filter (λ (c : CopyRow). is_primary c.pool u) fewer)) (list_all (λ (c : CopyRow). eqb c.pool i.from) (primary_copies u x)) (new_primary u x.size (move_row n i) fewer s) (all_in_pool u i.from x.copies) in
    let one : replaced_fits moved u i x ≡ true =
    and_from (copy_fits_after moved u i.pool x.size i.segments) (not (has_copy i.pool fewer) && (not (is_primary i.pool u) || list_all (λ (c : CopyRow). eqb c.pool i.from) (primary_copies u x)))
    (and_from (is_some (pool i.pool u)) (sum_by (λ s. s.len) i.segments == x.size && list_all (segment_fits_after moved u i.pool) i.segments) there.0
    (and_from (sum_by (λ s. s.len) i.segments == x.size) (list_all (segment_fits_after moved u i.pool) i.segments) (new_sized u x.size (move_row n i) fewer s) fit.0))
    (and_from (not (has_copy i.pool fewer)) (not (is_primary i.pool u) || list_all (λ (c : CopyRow). eqb c.pool i.from) (primary_copies u x)) (new_alone (move_row n i) fewer s.by_pool) alone) in
    and_from (moved_copy_fits moved u i) (list_all (moved_copy_fits moved u) items)
    (ap (λ (vs : List Version). option_map_or (λ w. replaced_fits moved u i w) (version_of i.object vs) false) (sym same) ∙ ap (λ (o : Option Version). option_map_or (λ w. replaced_fits moved u i w) o false) h.0.there ∙ one)
    (moves_fit_each moved u v n items same fit.1 there.1 h.1)

each_matches : (u : Inv) (items : List MovedCopy) → are_distinct (versions u) ≡ true → list_all (λ (w : Version). are_by_pool w.copies) (versions u) ≡ true → AllByRecursion (λ (i : MovedCopy). filter (matches i) (copies u) ≡ left_of i (version i.object u)) items
each_matches u [] d by = tt
each_matches u (i ∷ items) d by = (one_matches i (versions u) d by, each_matches u items d by)

pub moves_fit : (items : List MovedCopy) (u : Inv) → copies_cite u ≡ true → versions_are_copied u ≡ true → are_distinct (versions u) ≡ true → all_later (λ (i j : MovedCopy). not (eqb i.object j.object)) items ≡ true → AllByRecursion (IsMoved (each put_moved items u)) items
    → IsLeft (each move_copy items (each put_moved items u)) → items_fit (moved_copy_fits items) (λ i. i.segments) items u ≡ true
moves_fit items u cite copied distinct once found l =
    let v : Inv = each put_moved items u in
    let w : Inv = each move_copy items v in
    let kept : OnlyVolumes u v = moved_kept items u in
    let n : ℕ = v.number in
    let whole : versions v ≡ versions u = ap (λ (x : Inv). versions x) kept.only in
    let same : SameShapes u w = shapes_then u v w (shapes_of u v kept) (move_shapes items v) in
    let news : List (ℕ × CopyRow) = map (λ (i : MovedCopy). (i.object, move_row n i)) items in
    let b : recopied.AllBack (λ (i : MovedCopy). i.object) (λ n i. copy.Replace i.from (move_row n i)) move_copy move_row left_in after_move Leaves move_said move_order moves_kept (is_copied u) items v w =
    recopied.all_back (λ (i : MovedCopy). i.object) (λ n i. copy.Replace i.from (move_row n i)) move_copy move_row left_in after_move Leaves move_said move_order moves_kept (is_copied u)
    items v (ap are_distinct whole ∙ distinct) once (move_finds u v items (ap (list_all (is_copied u)) whole ∙ copied) found) (copied_still u w same l.copied) in
    let stay : List (ℕ × CopyRow) = staying items (copies u) in
    let by : list_all (λ (x : Version). are_by_pool x.copies) (versions u) ≡ true = all_so (is_copied u) (λ (x : Version). are_by_pool x.copies) (λ x t. (sound u x t).by_pool) (versions u) copied in
    let part : IsReordered (copies u) (flat_map (λ (i : MovedCopy). left_of i (version i.object u)) items ++ stay) = parted (λ (i : MovedCopy). left_of i (version i.object u)) items (copies u) once (each_matches u items distinct by) in
    let olds : flat_map (λ (i : MovedCopy). left_of i (version i.object v)) items ≡ flat_map (λ (i : MovedCopy). left_of i (version i.object u)) items = ap (λ (x : Inv). flat_map (λ (i : MovedCopy). left_of i (version i.object x)) items) kept.only in
    let all : IsReordered (news ++ copies u) (flat_map (λ (i : MovedCopy). left_of i (version i.object u)) items ++ copies w) =
    subst (λ (c : List (ℕ × CopyRow)). IsReordered (news ++ c) (flat_map (λ (i : MovedCopy). left_of i (version i.object u)) items ++ copies w)) (ap (λ (x : Inv). copies x) kept.only)
    (subst (λ (o : List (ℕ × CopyRow)). IsReordered (news ++ copies v) (o ++ copies w)) olds b.rows) in
    let order : IsReordered (copies w) (news ++ stay) = reordered_back (news ++ stay) (copies w) (replaced_rows news (flat_map (λ (i : MovedCopy). left_of i (version i.object u)) items) stay (copies u) (copies w) part all) in
    let came : MayCome (segments_of stay) (with_clients nothing u) (in_pools (λ (i : MovedCopy). i.pool) (λ i. i.segments) items) =
    subst (λ (l : List (ℕ × Segment)). MayCome (segments_of stay) (with_clients nothing u) l) (rows_segments (λ (i : MovedCopy). i.object) (λ i. i.pool) (λ i. i.segments) (move_row n) (λ i. refl) (λ i. refl) items)
    (rows_came u w news stay same l.cite l.volumes order) in
    let tests = items_back items u (λ (i : MovedCopy). i.pool) (λ i. i.segments) items cite came in
    let cited : list_all (is_cited w) (news ++ stay) ≡ true = sym (list_all-reordered (is_cited w) (copies w) (news ++ stay) order) ∙ l.cite in
    let pools = pools_of u w (λ (i : MovedCopy). i.object) (λ i. i.pool) (move_row n) (λ i. refl) same items (list_all-parts (is_cited w) news stay cited).0 in
    and_from (list_all (moved_copy_fits items u) items) (are_all_clear u (flat_map (λ (i : MovedCopy). i.segments) items)) (moves_fit_each items u v n items whole tests.0 pools b.each) tests.1
