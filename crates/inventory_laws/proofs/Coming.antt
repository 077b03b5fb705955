-- Segments that may come, as others come before them.
use Rattle.std.proofs.Common.{◌≡◌, ℕ, ◌+◌, ◌%◌, Bool, true, false, not, ◌&&◌, ◌||◌, List, [], ◌∷◌, ◌++◌, map, Option, Some, None, is_some, refl, sym, ap, subst, ◌∙◌}
use Rattle.std.specs.Prelude.{◌==◌, nat_le}
use Rattle.std.specs.List.{list_all, flat_map, sum_by}
use Rattle.std.specs.Option.{option_map_or}
use Rattle.std.proofs.lemmas.Bool.{and_parts, and_from, eqb-true}
use Rattle.std.proofs.lemmas.List.{map-append}
use Rattle.kinds.specs.declared.segment.Segment.{Segment}
use Rattle.inventory_rules.specs.entries.change_items.declared.items.MovedCopy.{MovedCopy}
use Rattle.inventory_rules.specs.entries.change_items.declared.items.NewCopy.{NewCopy}
use Rattle.inventory_rules.specs.entries.change_items.declared.items.NewHeldObject.{NewHeldObject}
use Rattle.inventory_rules.specs.entries.change_items.declared.items.NewVersion.{NewVersion}
use Rattle.inventory_rules.specs.inventory_rows.version_groups.declared.copies.CopyRow.{CopyRow}
use Rattle.inventory_rules.specs.inventory_rows.version_groups.declared.versions.Version.{Version}
use Rattle.inventory_rules.specs.inventory_rows.version_groups.Copies.{has_copy, without_copy}
use Rattle.inventory_rules.specs.inventory_rows.version_groups.Entries.{all_later, is_nil}
use Rattle.inventory_rules.specs.inventory_rows.volume_rows.declared.volume.Volume.{Volume}
use Rattle.inventory_rules.specs.inventory_rows.pool_tables.Rows.{row_at}
use Rattle.inventory_rules.specs.inventory_rows.pool_rows.PoolRows.{PoolRows, is_sequential, is_sequential_row, is_sequential_at}
use Rattle.inventory_rules.specs.inventory_rows.Search.{copies, is_primary, pool, segments_on, version}
use Rattle.inventory_rules.specs.inventory_rows.State.{Inv}
use Rattle.inventory_rules.specs.Segments.{put, are_all_clear, are_clear, copy_fits, items_fit, lies_rightly, leaves, segment_fits, segment_fits_after}
use Rattle.inventory_rules.specs.Halfway.{lying, segments_of}
use Rattle.inventory_rules.specs.Valid.{primary_copies}
use Rattle.inventory_rules.specs.Copies.{added_fits, moved_copy_fits, new_copy_fits, replaced_fits}
use Rattle.inventory_rules.specs.Versions.{new_held_fits, new_version_fits}
use Rattle.inventory_rules.specs.Reordered.{IsReordered}
use Rattle.inventory_laws.specs.Coming.{in_pool, in_pools, is_clear_of, is_clear_there, MayCome}
use Rattle.inventory_laws.specs.Kept.{OnlyVolumes}
use Rattle.inventory_laws.proofs.Keeping.{clear_kept, clear_more, lies_kept, put_kept, sequential_kept}
use Rattle.inventory_laws.proofs.Orders.{list_all-reordered}
use Rattle.inventory_laws.proofs.VolumeRows.{all_both, all_later-same, all_same, all_so, list_all-append, list_all-parts}
use Rattle.inventory_laws.proofs.Swapping.{swapped}

-- ---- they may come at the beginning

-- on a volume of the pool, what is sequential is what the pool is
pub lies_at_pool : (n : ℕ) (s : Segment) (stores : PoolRows) → lies_rightly (is_sequential n stores) n s (row_at s.file stores.volumes) ≡ true → is_sequential_at s.file stores ≡ is_sequential n stores
lies_at_pool n s stores h = go (row_at s.file stores.volumes) h where
  go : (o : Option Volume) → lies_rightly (is_sequential n stores) n s o ≡ true → is_sequential_row stores o ≡ is_sequential n stores
  go None h = absurd cc
  go (Some w) h =
      ap (λ k. is_sequential k stores) (eqb-true w.pool n (and_parts (w.pool == n) (nat_le (s.offset + 32 + s.len) w.capacity && (is_sequential n stores || s.offset % 4096 == 0)) h).0)

pub fits_lies_after : (moved : List MovedCopy) (v : Inv) (n : ℕ) (s : Segment) → segment_fits_after moved v n s ≡ true → lies_rightly (is_sequential_at s.file v.stores) n s (row_at s.file v.stores.volumes) ≡ true
fits_lies_after moved v n s h =
    let parts = and_parts (lies_rightly (is_sequential n v.stores) n s (row_at s.file v.stores.volumes)) (list_all (λ e. leaves moved n e.0 || are_clear (is_sequential n v.stores) s e.1) (segments_on s.file v)) h in
    ap (λ b. lies_rightly b n s (row_at s.file v.stores.volumes)) (lies_at_pool n s v.stores parts.0) ∙ parts.0

fits_clear : (v : Inv) (n : ℕ) (s : Segment) → segment_fits v n s ≡ true → is_clear_there [] v s ≡ true
fits_clear v n s h =
    let parts = and_parts (lies_rightly (is_sequential n v.stores) n s (row_at s.file v.stores.volumes)) (list_all (λ e. are_clear (is_sequential n v.stores) s e.1) (segments_on s.file v)) h in
    ap (λ b. list_all (λ e. are_clear b s e.1) (lying [] s.file v)) (lies_at_pool n s v.stores parts.0)
    ∙ list_all-append (λ e. are_clear (is_sequential n v.stores) s e.1) (segments_on s.file v) [] parts.1 refl

all-in_pool : (p : ℕ × Segment → Bool) (n : ℕ) (segments : List Segment) → list_all (λ s. p (n, s)) segments ≡ true → list_all p (in_pool n segments) ≡ true
all-in_pool p n [] h = refl
all-in_pool p n (s ∷ segments) h =
    let parts = and_parts (p (n, s)) (list_all (λ t. p (n, t)) segments) h in
    and_from (p (n, s)) (list_all p (in_pool n segments)) parts.0 (all-in_pool p n segments parts.1)

all-in_pools : {X : Type 0} (number : X → ℕ) (segments : X → List Segment) (p : ℕ × Segment → Bool) (items : List X) → list_all (λ i. list_all (λ s. p (number i, s)) (segments i)) items ≡ true → list_all p (in_pools number segments items) ≡ true
all-in_pools number segments p [] h = refl
all-in_pools number segments p (i ∷ items) h =
    let parts = and_parts (list_all (λ s. p (number i, s)) (segments i)) (list_all (λ j. list_all (λ s. p (number j, s)) (segments j)) items) h in
    list_all-append p (in_pool (number i) (segments i)) (in_pools number segments items) (all-in_pool p (number i) (segments i) parts.0) (all-in_pools number segments p items parts.1)

pub map-in_pool : (n : ℕ) (ss : List Segment) → map (λ (e : ℕ × Segment). e.1) (in_pool n ss) ≡ ss
map-in_pool n [] = refl
map-in_pool n (s ∷ ss) = ap (λ (l : List Segment). s ∷ l) (map-in_pool n ss)

pub map-in_pools : {X : Type 0} (number : X → ℕ) (segments : X → List Segment) (items : List X) → map (λ (e : ℕ × Segment). e.1) (in_pools number segments items) ≡ flat_map segments items
map-in_pools number segments [] = refl
map-in_pools number segments (i ∷ items) =
    map-append (λ (e : ℕ × Segment). e.1) (in_pool (number i) (segments i)) (in_pools number segments items)
    ∙ ap (λ (l : List Segment). l ++ map (λ (e : ℕ × Segment). e.1) (in_pools number segments items)) (map-in_pool (number i) (segments i))
    ∙ ap (λ (l : List Segment). segments i ++ l) (map-in_pools number segments items)

all-map : {A B : Type 0} (f : A → B) (p : B → Bool) (xs : List A) → list_all p (map f xs) ≡ list_all (λ x. p (f x)) xs
all-map f p [] = refl
all-map f p (x ∷ xs) = ap (λ b. p (f x) && b) (all-map f p xs)

pub later-map : {A B : Type 0} (f : A → B) (r : B → B → Bool) (xs : List A) → all_later r (map f xs) ≡ all_later (λ x y. r (f x) (f y)) xs
later-map f r [] = refl
later-map f r (x ∷ xs) = ap (λ b. b && all_later r (map f xs)) (all-map f (r (f x)) xs) ∙ ap (λ b. list_all (λ y. r (f x) (f y)) xs && b) (later-map f r xs)

-- where a test says of each that it lies rightly and is clear of what lies there
pub may_come_by : {X : Type 0} (number : X → ℕ) (segments : X → List Segment) (items : List X) (p : List (ℕ × Segment)) (v : Inv) (test : ℕ → Segment → Bool)
    → ((n : ℕ) (s : Segment) → test n s ≡ true → lies_rightly (is_sequential_at s.file v.stores) n s (row_at s.file v.stores.volumes) ≡ true) → ((n : ℕ) (s : Segment) → test n s ≡ true → is_clear_there p v s ≡ true)
    → list_all (λ i. list_all (test (number i)) (segments i)) items ≡ true → are_all_clear v (flat_map segments items) ≡ true → MayCome p v (in_pools number segments items)
may_come_by number segments items p v test lies clear fit apart =
    let each : list_all (λ (e : ℕ × Segment). test e.0 e.1) (in_pools number segments items) ≡ true = all-in_pools number segments (λ e. test e.0 e.1) items fit in
    record {
      lie =
          all_so (λ (e : ℕ × Segment). test e.0 e.1) (λ e. lies_rightly (is_sequential_at e.1.file v.stores) e.0 e.1 (row_at e.1.file v.stores.volumes)) (λ e h. lies e.0 e.1 h)
          (in_pools number segments items) each;
      clear = all_so (λ (e : ℕ × Segment). test e.0 e.1) (λ e. is_clear_there p v e.1) (λ e h. clear e.0 e.1 h) (in_pools number segments items) each;
      apart =
          sym (later-map (λ (e : ℕ × Segment). e.1) (is_clear_of v) (in_pools number segments items))
          ∙ ap (all_later (is_clear_of v)) (map-in_pools number segments items) ∙ apart;
    }

pub may_come : {X : Type 0} (number : X → ℕ) (segments : X → List Segment) (items : List X) (v : Inv) → list_all (λ i. list_all (segment_fits v (number i)) (segments i)) items ≡ true → are_all_clear v (flat_map segments items) ≡ true
    → MayCome [] v (in_pools number segments items)
may_come number segments items v fit apart = may_come_by number segments items [] v (segment_fits v) (λ n s h. fits_lies_after [] v n s h) (λ n s h. fits_clear v n s h) fit apart

-- ---- after others came

pub come_one : (p : List (ℕ × Segment)) (v : Inv) (object n : ℕ) (s : Segment) (rest : List (ℕ × Segment)) → MayCome p v ((n, s) ∷ rest) → MayCome ((object, s) ∷ p) (put object (s ∷ []) v) rest
come_one p v object n s rest m =
    let w : Inv = put object (s ∷ []) v in
    let k : OnlyVolumes v w = put_kept object (s ∷ []) v in
    let lie = and_parts (lies_rightly (is_sequential_at s.file v.stores) n s (row_at s.file v.stores.volumes)) (list_all (λ e. lies_rightly (is_sequential_at e.1.file v.stores) e.0 e.1 (row_at e.1.file v.stores.volumes)) rest) m.lie in
    let clear = and_parts (is_clear_there p v s) (list_all (λ e. is_clear_there p v e.1) rest) m.clear in
    let apart = and_parts (list_all (λ e. is_clear_of v s e.1) rest) (all_later (λ a b. is_clear_of v a.1 b.1) rest) m.apart in
    record {
      lie =
          all_same (λ e. lies_rightly (is_sequential_at e.1.file w.stores) e.0 e.1 (row_at e.1.file w.stores.volumes)) (λ e. lies_rightly (is_sequential_at e.1.file v.stores) e.0 e.1 (row_at e.1.file v.stores.volumes)) (λ e. lies_kept v w k e.0 e.1) rest
          ∙ lie.1;
      clear =
          all_both (λ e. is_clear_there p v e.1) (λ e. is_clear_of v s e.1) (λ e. is_clear_there ((object, s) ∷ p) w e.1)
          (λ e a b. clear_kept v w k ((object, s) ∷ p) e.1 ∙ clear_more v p object s e.1 a b) rest clear.1 apart.0;
      apart =
          all_later-same (λ a b. is_clear_of w a.1 b.1) (λ a b. is_clear_of v a.1 b.1) (λ a b. ap (λ c. not (a.1.file == b.1.file) || are_clear c a.1 b.1) (sequential_kept v w k a.1.file)) rest ∙ apart.1;
    }

clear_reordered : (p q : List (ℕ × Segment)) (v w : Inv) → ((file : ℕ) → IsReordered (lying p file v) (lying q file w)) → w.stores ≡ v.stores → (s : Segment) → is_clear_there p v s ≡ true → is_clear_there q w s ≡ true
clear_reordered p q v w r same s h =
    ap (λ (t : PoolRows). list_all (λ e. are_clear (is_sequential_at s.file t) s e.1) (lying q s.file w)) same
    ∙ sym (list_all-reordered (λ (e : ℕ × Segment). are_clear (is_sequential_at s.file v.stores) s e.1) (lying p s.file v) (lying q s.file w) (r s.file)) ∙ h

-- the volumes are as they were, and what lies on them is the same
pub come_reordered : (p q : List (ℕ × Segment)) (v w : Inv) (rest : List (ℕ × Segment)) → ((file : ℕ) → IsReordered (lying p file v) (lying q file w)) → w.stores ≡ v.stores → MayCome p v rest → MayCome q w rest
come_reordered p q v w rest r same m = record {
  lie = subst (λ (t : PoolRows). list_all (λ e. lies_rightly (is_sequential_at e.1.file t) e.0 e.1 (row_at e.1.file t.volumes)) rest ≡ true) (sym same) m.lie;
  clear = all_so (λ e. is_clear_there p v e.1) (λ e. is_clear_there q w e.1) (λ e h. clear_reordered p q v w r same e.1 h) rest m.clear;
  apart = subst (λ (t : PoolRows). all_later (λ (a b : ℕ × Segment). not (a.1.file == b.1.file) || are_clear (is_sequential_at a.1.file t) a.1 b.1) rest ≡ true) (sym same) m.apart;
}

pub come_swapped : (a b : List (ℕ × CopyRow)) (p : List (ℕ × Segment)) (v w : Inv) (rest : List (ℕ × Segment)) → w.stores ≡ v.stores → IsReordered (a ++ copies v) (b ++ copies w) → MayCome (segments_of a ++ p) v rest → MayCome (segments_of b ++ p) w rest
come_swapped a b p v w rest same r m = come_reordered (segments_of a ++ p) (segments_of b ++ p) v w rest (λ file. swapped a b p file v w r) same m

-- those of the first copy lie rightly
pub lie_first : (p : List (ℕ × Segment)) (v : Inv) (n : ℕ) (segments : List Segment) (rest : List (ℕ × Segment)) → MayCome p v (in_pool n segments ++ rest)
    → list_all (λ s. lies_rightly (is_sequential_at s.file v.stores) n s (row_at s.file v.stores.volumes)) segments ≡ true
lie_first p v n segments rest m =
    sym (all-map {B = ℕ × Segment} (λ s. (n, s)) (λ (e : ℕ × Segment). lies_rightly (is_sequential_at e.1.file v.stores) e.0 e.1 (row_at e.1.file v.stores.volumes)) segments)
    ∙ (list_all-parts (λ (e : ℕ × Segment). lies_rightly (is_sequential_at e.1.file v.stores) e.0 e.1 (row_at e.1.file v.stores.volumes)) (in_pool n segments) rest m.lie).0

-- ---- by the tests of a transaction's parts

copy_segments : (v : Inv) (number size : ℕ) (segments : List Segment) → copy_fits v number size segments ≡ true → list_all (segment_fits v number) segments ≡ true
copy_segments v number size segments h =
    let parts = and_parts (is_some (pool number v)) (sum_by (λ s. s.len) segments == size && list_all (segment_fits v number) segments) h in
    (and_parts (sum_by (λ s. s.len) segments == size) (list_all (segment_fits v number) segments) parts.1).1

new_version_segments : (v : Inv) (i : NewVersion) → new_version_fits v i ≡ true → list_all (segment_fits v i.pool) i.segments ≡ true
new_version_segments v i h = copy_segments v i.pool i.size i.segments h

new_copy_segments : (v : Inv) (i : NewCopy) → new_copy_fits v i ≡ true → list_all (segment_fits v i.pool) i.segments ≡ true
new_copy_segments v i h = go (version i.object v) h where
  go : (o : Option Version) → option_map_or (λ w. added_fits v i w) o false ≡ true → list_all (segment_fits v i.pool) i.segments ≡ true
  go None t = absurd cc
  go (Some w) t = copy_segments v i.pool w.size i.segments (and_parts (copy_fits v i.pool w.size i.segments) (not (is_primary i.pool v) || is_nil (primary_copies v w)) t).0

moved_copy_segments : (v : Inv) (i : MovedCopy) → moved_copy_fits [] v i ≡ true → list_all (segment_fits v i.pool) i.segments ≡ true
moved_copy_segments v i h = go (version i.object v) h where
  go : (o : Option Version) → option_map_or (λ w. replaced_fits [] v i w) o false ≡ true → list_all (segment_fits v i.pool) i.segments ≡ true
  go None t = absurd cc
  go (Some w) t =
      copy_segments v i.pool w.size i.segments
      (and_parts (copy_fits v i.pool w.size i.segments) (not (has_copy i.pool (without_copy i.from w.copies)) && (not (is_primary i.pool v) || list_all (λ c. c.pool == i.from) (primary_copies v w))) t).0

items_come : {X : Type 0} (fits : Inv → X → Bool) (number : X → ℕ) (segments : X → List Segment) (v : Inv) → ((x : X) → fits v x ≡ true → list_all (segment_fits v (number x)) (segments x) ≡ true) → (items : List X)
    → items_fit fits segments items v ≡ true → MayCome [] v (in_pools number segments items)
items_come fits number segments v step items h =
    let parts = and_parts (list_all (fits v) items) (are_all_clear v (flat_map segments items)) h in
    may_come number segments items v (all_so (fits v) (λ i. list_all (segment_fits v (number i)) (segments i)) step items parts.0) parts.1

pub new_versions_come : (items : List NewVersion) (v : Inv) → items_fit new_version_fits (λ i. i.segments) items v ≡ true → MayCome [] v (in_pools (λ (i : NewVersion). i.pool) (λ i. i.segments) items)
new_versions_come items v h = items_come new_version_fits (λ i. i.pool) (λ i. i.segments) v (new_version_segments v) items h

pub new_held_come : (items : List NewHeldObject) (v : Inv) → items_fit new_held_fits (λ i. i.segments) items v ≡ true → MayCome [] v (in_pools (λ (i : NewHeldObject). i.pool) (λ i. i.segments) items)
new_held_come items v h = items_come new_held_fits (λ i. i.pool) (λ i. i.segments) v (λ i h. copy_segments v i.pool i.size i.segments h) items h

pub new_copies_come : (items : List NewCopy) (v : Inv) → items_fit new_copy_fits (λ i. i.segments) items v ≡ true → MayCome [] v (in_pools (λ (i : NewCopy). i.pool) (λ i. i.segments) items)
new_copies_come items v h = items_come new_copy_fits (λ i. i.pool) (λ i. i.segments) v (new_copy_segments v) items h

pub moved_copies_come : (items : List MovedCopy) (v : Inv) → items_fit (moved_copy_fits []) (λ i. i.segments) items v ≡ true → MayCome [] v (in_pools (λ (i : MovedCopy). i.pool) (λ i. i.segments) items)
moved_copies_come items v h = items_come (moved_copy_fits []) (λ i. i.pool) (λ i. i.segments) v (moved_copy_segments v) items h
