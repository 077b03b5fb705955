-- Scratch volumes of a database that is valid with them are of sequential pools.
use Rattle.std.proofs.Common.{◌≡◌, ℕ, ◌^◌, ◌*◌, ◌%◌, ◌≤◌, Bool, true, false, cond, not, ◌&&◌, List, [], ◌∷◌, map, Option, Some, None, is_some, refl, sym, ap, ◌∙◌, arith}
use Rattle.std.specs.Prelude.{◌==◌, nat_le}
use Rattle.std.specs.List.{flat_map, list_all}
use Rattle.std.specs.Option.{option_map_or}
use Rattle.std.specs.Ordering.{is_eq, match_ordering, nat_cmp}
use Rattle.std.specs.declared.cmp.Ordering.TheVariants.{Less, Equal, Greater}
use Rattle.std.proofs.lemmas.Bool.{and_parts, and_from, leb-true}
use Rattle.std.proofs.lemmas.Option.{same_Some}
use Rattle.inventory_rules.specs.entries.change_items.declared.items.ScratchVolume.{ScratchVolume}
use Rattle.inventory_rules.specs.inventory_rows.version_groups.Entries.{all_later}
use Rattle.inventory_rules.specs.inventory_rows.volume_rows.declared.volume.Volume.{Volume}
use Rattle.inventory_rules.specs.inventory_rows.pool_tables.RowChanges.{scratch_volume}
use Rattle.inventory_rules.specs.inventory_rows.pool_tables.Rows.{row_at, with_row}
use Rattle.inventory_rules.proofs.of_inventory_rows.of_pool_tables.Counting.{each_there}
use Rattle.inventory_rules.specs.inventory_rows.pool_rows.PoolRows.{is_sequential, pool_capacity}
use Rattle.inventory_rules.specs.inventory_rows.State.{Inv}
use Rattle.inventory_rules.specs.Common.{each, file_bound, files_refused, is_free_file}
use Rattle.inventory_rules.specs.Segments.{make_scratch, scratch_fits, scratch_refused}
use Rattle.inventory_rules.specs.Valid.{is_format_size, is_sized, is_volume, volumes_are}
use Rattle.inventory_laws.specs.Kept.{shape_of}
use Rattle.inventory_laws.proofs.Laid.{SameShapes}
use Rattle.inventory_laws.proofs.Scratch.{others_there, sequential_made}
use Rattle.inventory_laws.proofs.ScratchList.{all-mapped, later-mapped, none_of_both, still_free, unless_not}
use Rattle.inventory_laws.proofs.VolumeFacts.{capacity_kept}
use Rattle.inventory_laws.proofs.VolumeRows.{all_both, all_same, at_itself, each_of_all}

pub own_row : {V : Type 0} (k : ℕ) (x : V) (rows : List (ℕ × V)) → row_at k (with_row k x rows) ≡ Some x
own_row {V} k x [] = ap (λ b. cond {A = Option V} b (Some x) None) (at_itself k)
own_row {V} k x (e ∷ rows) =
    elim (nat_cmp k e.0) as (λ o. nat_cmp k e.0 ≡ o → row_at k (match_ordering o ((k, x) ∷ e ∷ rows) ((e.0, x) ∷ rows) (e ∷ with_row k x rows)) ≡ Some x) [
      | Less ↦ λ h. ap (λ b. cond {A = Option V} b (Some x) (row_at k (e ∷ rows))) (at_itself k)
      | Equal ↦ λ h. ap (λ o. cond {A = Option V} (is_eq o) (Some x) (row_at k rows)) h
      | Greater ↦ λ h. ap (λ o. cond {A = Option V} (is_eq o) (Some e.1) (row_at k (with_row k x rows))) h ∙ own_row k x rows
    ] refl

-- each has a file of its own
record AreApart (v : Inv) (scratch : List ScratchVolume) : Type 0 where
  free : list_all (λ s. is_free_file v s.file) scratch ≡ true
  apart : all_later (λ a b. not (a.file == b.file)) scratch ≡ true

are_apart_by : (scratch : List ScratchVolume) (v : Inv) → scratch_refused scratch v ≡ [] → AreApart v scratch
are_apart_by scratch v h =
    let parts = none_of_both (files_refused (map (λ (s : ScratchVolume). s.file) scratch) v) (flat_map (λ (s : ScratchVolume). file_bound s.file v) scratch) h in
    let files = and_parts (list_all (is_free_file v) (map (λ (s : ScratchVolume). s.file) scratch)) (all_later (λ a b. not (a == b)) (map (λ (s : ScratchVolume). s.file) scratch)) (unless_not _ _ parts.0) in
    record { free = all-mapped (λ (s : ScratchVolume). s.file) (is_free_file v) scratch files.0; apart = later-mapped (λ (s : ScratchVolume). s.file) (λ a b. not (a == b)) scratch files.1 }

apart_next : (s : ScratchVolume) (scratch : List ScratchVolume) (v : Inv) → AreApart v (s ∷ scratch) → AreApart (make_scratch s v) scratch
apart_next s scratch v a =
    let free = and_parts (is_free_file v s.file) (list_all (λ t. is_free_file v t.file) scratch) a.free in
    let apart = and_parts (list_all (λ t. not (s.file == t.file)) scratch) (all_later (λ x y. not (x.file == y.file)) scratch) a.apart in
    record { free = all_both (λ t. not (s.file == t.file)) (λ t. is_free_file v t.file) (λ t. is_free_file (make_scratch s v) t.file) (λ t ne h. still_free s v t.file free.0 ne h) scratch apart.0 free.1; apart = apart.1 }

row_stays : (scratch : List ScratchVolume) (v : Inv) (file : ℕ) (volume : Volume) → AreApart v scratch → row_at file v.stores.volumes ≡ Some volume → row_at file (each make_scratch scratch v).stores.volumes ≡ Some volume
row_stays [] v file volume a found = found
row_stays (s ∷ scratch) v file volume a found =
    row_stays scratch (make_scratch s v) file volume (apart_next s scratch v a) (others_there s v file volume (and_parts (is_free_file v s.file) (list_all (λ t. is_free_file v t.file) scratch) a.free).0 found)

-- the pool of a volume of that shape is sequential
abbrev capacity_for : Inv → ℕ → ℕ
capacity_for v n = option_map_or (λ c. c) (pool_capacity n v.stores) 0

none_formatted : is_format_size 0 ≡ true → ⊥
none_formatted h =
    let big : nat_le (2 ^ 20) 0 ≡ true = (and_parts (nat_le (2 ^ 20) 0) (nat_le 0 (65536 * 2 ^ 20)) (and_parts (0 % 2 ^ 20 == 0) (nat_le (2 ^ 20) 0 && nat_le 0 (65536 * 2 ^ 20)) h).1).0 in
    let over : 2 ^ 20 ≤ 0 = leb-true (2 ^ 20) 0 big in
    absurd (omega (arith, over))

sized_sequential : (v w : Inv) (n : ℕ) (volume : Volume) (b : Bool) → is_some (pool_capacity n v.stores) ≡ b → volume.capacity ≡ capacity_for v n → is_sized b w volume ≡ true → b ≡ true
sized_sequential v w n volume true is shape h = refl
sized_sequential v w n volume false is shape h = go (pool_capacity n v.stores) refl where
  go : (o : Option ℕ) → pool_capacity n v.stores ≡ o → false ≡ true
  go (Some c) found = sym is ∙ ap is_some found
  go None found =
      let zero : volume.capacity ≡ 0 = shape ∙ ap (λ o. option_map_or (λ c. c) o 0) found in
      absurd (none_formatted (ap is_format_size (sym zero) ∙ (and_parts (is_format_size volume.capacity) (volume.end == 0 && not volume.scratch) h).0))

sequential_same : (v : Inv) (scratch : List ScratchVolume) (n : ℕ) → is_sequential n (each make_scratch scratch v).stores ≡ is_sequential n v.stores
sequential_same v [] n = refl
sequential_same v (s ∷ scratch) n = sequential_same (make_scratch s v) scratch n ∙ sequential_made s v n

shape_found : (o : Option Volume) (p c : ℕ) → shape_of o ≡ Some (p, c) → (w : Volume) × (o ≡ Some w) × (w.pool ≡ p) × (w.capacity ≡ c)
shape_found None p c h = absurd cc
shape_found (Some w) p c h =
    let same : (w.pool, w.capacity) ≡ (p, c) = same_Some (w.pool, w.capacity) (p, c) h in
    (w, refl, ap (λ (e : ℕ × ℕ). e.0) same, ap (λ (e : ℕ × ℕ). e.1) same)

one_back : (s : ScratchVolume) (v u w : Inv) → row_at s.file u.stores.volumes ≡ Some (scratch_volume s.pool s.file (capacity_for v s.pool)) → is_sequential s.pool u.stores ≡ is_sequential s.pool v.stores → SameShapes u w → volumes_are w ≡ true → is_sequential s.pool v.stores ≡ true
one_back s v u w found kind same are =
    let there = shape_found (row_at s.file w.stores.volumes) s.pool (capacity_for v s.pool) (same.shapes s.file ∙ ap shape_of found) in
    let volume : Volume = there.0 in
    let q : Bool = is_sequential volume.pool w.stores in
    let here : is_volume w (s.file, volume) ≡ true = each_there (λ (f : ℕ × Volume). is_volume w f ≡ true) s.file volume w.stores.volumes there.1 (each_of_all (is_volume w) w.stores.volumes are) in
    let sized : is_sized q w volume ≡ true = (and_parts (is_sized q w volume) _ here).0 in
    let kinds : q ≡ is_sequential s.pool v.stores =
    ap (λ n. is_sequential n w.stores) there.2 ∙ ap (is_sequential s.pool) same.stores ∙ ap is_some (capacity_kept s.pool w.stores.volumes u.stores) ∙ kind in
    sized_sequential v w s.pool volume (is_sequential s.pool v.stores) refl there.3 (ap (λ b. is_sized b w volume) (sym kinds) ∙ sized)

all_sequential : (scratch : List ScratchVolume) (v w : Inv) → AreApart v scratch → SameShapes (each make_scratch scratch v) w → volumes_are w ≡ true → scratch_fits v scratch ≡ true
all_sequential [] v w a same are = refl
all_sequential (s ∷ scratch) v w a same are =
    let made : Inv = make_scratch s v in
    let u : Inv = each make_scratch scratch made in
    let own : row_at s.file made.stores.volumes ≡ Some (scratch_volume s.pool s.file (capacity_for v s.pool)) = own_row s.file (scratch_volume s.pool s.file (capacity_for v s.pool)) v.stores.volumes in
    let found : row_at s.file u.stores.volumes ≡ Some (scratch_volume s.pool s.file (capacity_for v s.pool)) = row_stays scratch made s.file (scratch_volume s.pool s.file (capacity_for v s.pool)) (apart_next s scratch v a) own in
    let first : is_sequential s.pool v.stores ≡ true = one_back s v u w found (sequential_same made scratch s.pool ∙ sequential_made s v s.pool) same are in
    let more : scratch_fits made scratch ≡ true = all_sequential scratch made w (apart_next s scratch v a) same are in
    and_from (is_sequential s.pool v.stores) (list_all (λ t. is_sequential t.pool v.stores) scratch) first (all_same (λ t. is_sequential t.pool v.stores) (λ t. is_sequential t.pool made.stores) (λ t. sym (sequential_made s v t.pool)) scratch ∙ more)

pub scratch_back : (scratch : List ScratchVolume) (v w : Inv) → scratch_refused scratch v ≡ [] → SameShapes (each make_scratch scratch v) w → volumes_are w ≡ true → scratch_fits v scratch ≡ true
scratch_back scratch v w h same are = all_sequential scratch v w (are_apart_by scratch v h) same are
