-- A scratch volume that is made.
use Rattle.std.proofs.Common.{◌≡◌, ℕ, ◌+◌, ◌-◌, ◌^◌, ◌<◌, ◌≤◌, max, Bool, true, false, cond, not, ◌&&◌, List, [], ◌∷◌, ◌++◌, map, Option, Some, None, is_some, is_none, refl, sym, ap, subst, ◌∙◌, append-nil, arith}
use Rattle.std.specs.Prelude.{◌==◌, nat_le, nat_lt}
use Rattle.std.specs.BTreeMap.{is_at}
use Rattle.std.specs.List.{list_all, AllByRecursion}
use Rattle.std.specs.Map.{keys_of}
use Rattle.std.specs.Option.{option_map_or}
use Rattle.std.specs.Ordering.{nat_cmp}
use Rattle.std.proofs.lemmas.Bool.{and_parts, and_from, eq-eqb, ne_eqb, le-leb, leb-true, lt-ltb, ltb-true, not_from_false, false≢true}
use Rattle.std.proofs.lemmas.Cmp.{nat_eq_equiv}
use Rattle.kinds.specs.declared.segment.Segment.{Segment}
use Rattle.inventory_rules.specs.entries.change_items.declared.items.ScratchVolume.{ScratchVolume}
use Rattle.inventory_rules.specs.inventory_rows.volume_rows.declared.volume.Volume.{Volume}
use Rattle.inventory_rules.specs.inventory_rows.pool_tables.declared.pool.Pool.{Pool}
use Rattle.kinds.specs.Names.{is_same_name}
use Rattle.inventory_rules.specs.inventory_rows.pool_tables.Rows.{row_at, with_row}
use Rattle.inventory_rules.specs.inventory_rows.pool_tables.RowChanges.{scratch_volume}
use Rattle.inventory_rules.specs.inventory_rows.pool_tables.Scratch.{scratch_name, is_scratch_name}
use Rattle.inventory_rules.proofs.of_inventory_rows.of_pool_tables.Counting.{apart_at, each_insert}
use Rattle.inventory_rules.proofs.of_inventory_rows.of_pool_tables.Names.{same_flips, same_is, same_itself}
use Rattle.inventory_rules.proofs.of_inventory_rows.of_pool_tables.ScratchNames.{scratch_apart, scratch_is_scratch}
use Rattle.inventory_rules.specs.inventory_rows.pool_rows.PoolRows.{PoolRows, is_sequential, pool_capacity, pool_class_capacity}
use Rattle.inventory_rules.specs.inventory_rows.declared.backup.Backup.{Backup}
use Rattle.inventory_rules.specs.inventory_rows.State.{Inv}
use Rattle.inventory_rules.specs.Segments.{make_scratch}
use Rattle.inventory_rules.specs.Common.{is_free_file}
use Rattle.inventory_rules.specs.Valid.{is_named_soundly, names_apart}
use Rattle.inventory_rules.specs.Halfway.{lying, VolumeFacts}
use Rattle.inventory_laws.proofs.VolumeFacts.{capacity_kept, without_volumes, IsRow, IsRowOf, IsTable, facts_from, primary_at, rows_of, table_of}
use Rattle.inventory_laws.proofs.VolumeRows.{all-insert, all_so, apart-insert, each_of_all, list_all-append, list_all-parts, not_at}
use Rattle.inventory_rules.proofs.Turns.{lookup-insert_other}
use Rattle.inventory_laws.proofs.Volume.{Fits}

-- ---- the number

pub from_none : {A : Type 0} (o : Option A) → is_none o ≡ true → o ≡ None
from_none None h = refl
from_none (Some x) h = absurd cc

some_none : {A : Type 0} (x : A) → Some x ≡ None → ⊥
some_none x h = absurd cc

-- no row has the number
none_there : {V : Type 0} (k : ℕ) (rows : List (ℕ × V)) → row_at k rows ≡ None → list_all (λ n. not (k == n)) (keys_of rows) ≡ true
none_there k [] absent = refl
none_there {V} k (e ∷ rows) absent =
    elim (is_at (nat_cmp k) e.0) as (λ b. is_at (nat_cmp k) e.0 ≡ b → cond b (Some e.1) (row_at k rows) ≡ None → list_all (λ n. not (k == n)) (keys_of (e ∷ rows)) ≡ true) [
      | true ↦ λ yes h. absurd cc
      | false ↦ λ off h.
          and_from (not (k == e.0)) (list_all (λ n. not (k == n)) (keys_of rows)) (not_from_false (k == e.0) (ne_eqb k e.0 (λ same. not_at k e.0 off (sym same)))) (none_there k rows h)
    ] refl absent

differ_flips : (a b : ℕ) → not (a == b) ≡ not (b == a)
differ_flips a b = ap not (nat_eq_equiv.symm a b)

-- ---- the name

name_free : (file : ℕ) (e : ℕ × Volume) → file < 2 ^ 64 → e.0 < 2 ^ 64 → (file ≡ e.0 → ⊥) → is_named_soundly e ≡ true → not (is_same_name (scratch_name file) e.1.name) ≡ true
name_free file e small other ne named = go (is_same_name (scratch_name file) e.1.name) refl where
  scratch_or_not : (b : Bool) → cond b (is_same_name e.1.name (scratch_name e.0)) (not (is_scratch_name e.1.name)) ≡ true → scratch_name file ≡ e.1.name → ⊥
  scratch_or_not true h same = ne (scratch_apart file e.0 small other (same ∙ same_is e.1.name (scratch_name e.0) h))
  scratch_or_not false h same =
      false≢true (sym (ap not (ap is_scratch_name (sym same) ∙ scratch_is_scratch file small)) ∙ h)

  go : (b : Bool) → is_same_name (scratch_name file) e.1.name ≡ b → not b ≡ true
  go true same = absurd (scratch_or_not e.1.scratch named (same_is (scratch_name file) e.1.name same))
  go false same = refl

names_free : (file next : ℕ) → file < 2 ^ 64 → next < 2 ^ 64 → (rows : List (ℕ × Volume)) → list_all (λ n. nat_le 4 n && nat_lt n next) (keys_of rows) ≡ true → list_all (λ n. not (file == n)) (keys_of rows) ≡ true
    → AllByRecursion (λ e. is_named_soundly e ≡ true) rows → list_all (λ b. not (is_same_name (scratch_name file) b)) (map (λ e. e.1.name) rows) ≡ true
names_free file next small bound [] drawn apart named = refl
names_free file next small bound (e ∷ rows) drawn apart named =
    let here = and_parts (nat_le 4 e.0 && nat_lt e.0 next) (list_all (λ n. nat_le 4 n && nat_lt n next) (keys_of rows)) drawn in
    let below : e.0 < next = ltb-true e.0 next (and_parts (nat_le 4 e.0) (nat_lt e.0 next) here.0).1 in
    let far = and_parts (not (file == e.0)) (list_all (λ n. not (file == n)) (keys_of rows)) apart in
    let low : e.0 < 2 ^ 64 = omega arith in
    and_from (not (is_same_name (scratch_name file) e.1.name)) (list_all (λ b. not (is_same_name (scratch_name file) b)) (map (λ f. f.1.name) rows))
    (name_free file e small low (differs file e.0 far.0) named.0) (names_free file next small bound rows here.1 far.1 named.1)
  where
    differs : (a b : ℕ) → not (a == b) ≡ true → a ≡ b → ⊥
    differs a b h same = false≢true (sym (ap not (eq-eqb a b same)) ∙ h)

name_flips : (a b : List ℕ) → not (is_same_name a b) ≡ not (is_same_name b a)
name_flips a b = ap not (same_flips a b)

-- ---- the row

pool_there : (s : PoolRows) (o : Option Pool) → is_some (pool_class_capacity s o) ≡ true → is_some o ≡ true
pool_there s None h = h
pool_there s (Some p) h = refl

-- an empty volume with the capacity of its class
empty_fits : (class : Option ℕ) (primary : Bool) (pool file : ℕ) → is_some class ≡ true → Fits (is_some class) class primary [] (scratch_volume pool file (option_map_or (λ c. c) class 0))
empty_fits None primary pool file h = absurd cc
empty_fits (Some c) primary pool file h = record {
  sized = and_from (c == c) (nat_le 0 c) (eq-eqb c c refl) (le-leb 0 c (omega arith));
  access = refl;
  disjoint = refl;
  placed = refl;
  emptied = refl;
}

module _ (s : ScratchVolume) (v : Inv) where
  abbrev pub made : Volume
  made = scratch_volume s.pool s.file (option_map_or (λ c. c) (pool_capacity s.pool v.stores) 0)

  made_row : is_sequential s.pool v.stores ≡ true → IsRow (without_volumes v.stores) v.today [] (s.file, made)
  made_row sequential = record {
    cite = pool_there v.stores (row_at s.pool v.stores.pools) sequential;
    soundly = same_itself (scratch_name s.file);
    by_today = refl;
    fits =
        subst (λ class. Fits (is_some class) class (primary_at s.pool v.stores) [] made) (sym (capacity_kept s.pool [] v.stores))
        (empty_fits (pool_capacity s.pool v.stores) (primary_at s.pool v.stores) s.pool s.file sequential);
    tied = refl;
  }

-- ---- the table

table_made : (file next : ℕ) (new : Volume) (rows : List (ℕ × Volume)) (backups : List (ℕ × Backup)) → new.name ≡ scratch_name file
    → nat_le 4 file ≡ true → row_at file rows ≡ None → row_at file backups ≡ None → nat_lt (max next (file + 1)) (2 ^ 32 - 1) ≡ true
    → AllByRecursion (λ e. is_named_soundly e ≡ true) rows → IsTable next (keys_of rows ++ keys_of backups) (map (λ f. f.1.name) rows)
    → IsTable (max next (file + 1)) (keys_of (with_row file new rows) ++ keys_of backups) (map (λ f. f.1.name) (with_row file new rows))
table_made file next new rows backups name least absent unlisted below named t =
    let high : max next (file + 1) < 2 ^ 32 - 1 = ltb-true (max next (file + 1)) (2 ^ 32 - 1) below in
    let bounds = and_parts (nat_le 4 next && nat_lt next (2 ^ 32 - 1)) true t.bounded in
    let low : 4 ≤ next = leb-true 4 next (and_parts (nat_le 4 next) (nat_lt next (2 ^ 32 - 1)) bounds.0).0 in
    let first : 4 ≤ max next (file + 1) = omega arith in
    let small : file < 2 ^ 64 = omega arith in
    let bound : next < 2 ^ 64 = omega arith in
    let own : file < max next (file + 1) = omega arith in
    let sides = list_all-parts (λ n. nat_le 4 n && nat_lt n next) (keys_of rows) (keys_of backups) t.drawn in
    let wide : (keys : List ℕ) → list_all (λ n. nat_le 4 n && nat_lt n next) keys ≡ true → list_all (λ n. nat_le 4 n && nat_lt n (max next (file + 1))) keys ≡ true =
    all_so (λ n. nat_le 4 n && nat_lt n next) (λ n. nat_le 4 n && nat_lt n (max next (file + 1))) wider in
    let fresh : list_all (λ n. not (file == n)) (keys_of rows) ≡ true = none_there file rows absent in
    record {
      drawn =
          list_all-append (λ n. nat_le 4 n && nat_lt n (max next (file + 1))) (keys_of (with_row file new rows)) (keys_of backups)
          (all-insert (λ e. e.0) (λ n. nat_le 4 n && nat_lt n (max next (file + 1))) file new rows absent (and_from (nat_le 4 file) (nat_lt file (max next (file + 1))) least (lt-ltb file (max next (file + 1)) own)) (wide (keys_of rows) sides.0))
          (wide (keys_of backups) sides.1);
      bounded = and_from (nat_le 4 (max next (file + 1)) && nat_lt (max next (file + 1)) (2 ^ 32 - 1)) true (and_from (nat_le 4 (max next (file + 1))) (nat_lt (max next (file + 1)) (2 ^ 32 - 1)) (le-leb 4 (max next (file + 1)) first) below) refl;
      apart =
          apart-insert (λ e. e.0) (λ a b. not (a == b)) differ_flips file new (keys_of backups) rows absent
          (list_all-append (λ n. not (file == n)) (keys_of rows) (keys_of backups) fresh (none_there file backups unlisted)) t.apart;
      named =
          subst (λ (l : List (List ℕ)). names_apart l ≡ true) (append-nil (map (λ f. f.1.name) (with_row file new rows)))
          (apart-insert (λ e. e.1.name) (λ a b. not (is_same_name a b)) name_flips file new [] rows absent
          (subst (λ (l : List (List ℕ)). list_all (λ b. not (is_same_name new.name b)) l ≡ true) (sym (append-nil (map (λ e. e.1.name) rows)))
          (subst (λ n. list_all (λ b. not (is_same_name n b)) (map (λ e. e.1.name) rows) ≡ true) (sym name) (names_free file next small bound rows sides.0 fresh named)))
          (subst (λ (l : List (List ℕ)). names_apart l ≡ true) (sym (append-nil (map (λ f. f.1.name) rows))) t.named));
    }
  where
    wider : (n : ℕ) → (nat_le 4 n && nat_lt n next) ≡ true → (nat_le 4 n && nat_lt n (max next (file + 1))) ≡ true
    wider n h =
        let parts = and_parts (nat_le 4 n) (nat_lt n next) h in
        let under : n < next = ltb-true n next parts.1 in
        and_from (nat_le 4 n) (nat_lt n (max next (file + 1))) parts.0 (lt-ltb n (max next (file + 1)) (omega arith))

pub scratch_made : (p : List (ℕ × Segment)) (s : ScratchVolume) (v : Inv) → VolumeFacts p v → is_free_file v s.file ≡ true → is_sequential s.pool v.stores ≡ true
    → nat_lt (max v.next_file (s.file + 1)) (2 ^ 32 - 1) ≡ true → lying p s.file v ≡ [] → VolumeFacts p (make_scratch s v)
scratch_made p s v f free sequential below none =
    let parts = and_parts (nat_le 4 s.file) (is_none (row_at s.file v.stores.volumes) && is_none (row_at s.file v.backups)) free in
    let lists = and_parts (is_none (row_at s.file v.stores.volumes)) (is_none (row_at s.file v.backups)) parts.1 in
    let absent : row_at s.file v.stores.volumes ≡ None = from_none (row_at s.file v.stores.volumes) lists.0 in
    let rows : AllByRecursion (IsRowOf v (λ file. lying p file v)) v.stores.volumes = rows_of p v f in
    facts_from p (make_scratch s v)
    (table_made s.file v.next_file (made s v) v.stores.volumes v.backups refl parts.0 absent (from_none (row_at s.file v.backups) lists.1) below
    (each_of_all is_named_soundly v.stores.volumes f.soundly) (table_of p v f))
    (each_insert (IsRowOf v (λ file. lying p file v)) s.file (made s v) v.stores.volumes absent
    (subst (λ (l : List (ℕ × Segment)). IsRow (without_volumes v.stores) v.today l (s.file, made s v)) (sym none) (made_row s v sequential)) rows)

-- ---- what stays

lookup-with_row : {V : Type 0} (k file : ℕ) (new w : V) (rows : List (ℕ × V)) → row_at k rows ≡ None → row_at file rows ≡ Some w → row_at file (with_row k new rows) ≡ Some w
lookup-with_row {V} k file new w rows absent found = lookup-insert_other nat_cmp (is_at (nat_cmp file)) k new off rows absent ∙ found where
  off : is_at (nat_cmp file) k ≡ false
  off = apart_at file k (λ same. some_none w (sym found ∙ ap (λ n. row_at n rows) same ∙ absent))

pub others_there : (s : ScratchVolume) (v : Inv) (file : ℕ) (volume : Volume) → is_free_file v s.file ≡ true → row_at file v.stores.volumes ≡ Some volume → row_at file (make_scratch s v).stores.volumes ≡ Some volume
others_there s v file volume free found =
    let parts = and_parts (nat_le 4 s.file) (is_none (row_at s.file v.stores.volumes) && is_none (row_at s.file v.backups)) free in
    let lists = and_parts (is_none (row_at s.file v.stores.volumes)) (is_none (row_at s.file v.backups)) parts.1 in
    lookup-with_row s.file file (made s v) volume v.stores.volumes (from_none (row_at s.file v.stores.volumes) lists.0) found

pub sequential_made : (s : ScratchVolume) (v : Inv) (n : ℕ) → is_sequential n (make_scratch s v).stores ≡ is_sequential n v.stores
sequential_made s v n = ap is_some (capacity_kept n (make_scratch s v).stores.volumes v.stores)
