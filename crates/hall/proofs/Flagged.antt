-- The segments of one ticket don't overlap one another, whatever rows their volumes have: said of a database in which all of them lie in the ticket's pool.
use Rattle.std.proofs.Common.{◌≡◌, ℕ, Bool, true, false, cond, not, ◌&&◌, ◌||◌, List, [], ◌∷◌, ◌++◌, map, Some, refl, sym, ap, subst, ◌∙◌}
use Rattle.std.specs.Prelude.{◌==◌}
use Rattle.std.specs.BTreeMap.{is_at}
use Rattle.std.specs.List.{AllByRecursion, list_all}
use Rattle.std.specs.Ordering.{nat_cmp}
use Rattle.std.proofs.lemmas.Bool.{and_from, and_parts, eq-eqb, false≢true}
use Rattle.std.proofs.lemmas.Grind.{flat_map-append}
use Rattle.kinds.specs.declared.segment.Segment.{Segment}
use Rattle.inventory_rows.specs.State.{Inv}
use Rattle.inventory_rows.specs.pool_rows.PoolRows.{PoolRows, is_sequential, is_sequential_at, is_sequential_row}
use Rattle.inventory_rows.specs.pool_tables.RowChanges.{scratch_volume}
use Rattle.inventory_rows.specs.pool_tables.Rows.{row_at}
use Rattle.inventory_rows.specs.version_groups.Entries.{all_later}
use Rattle.inventory_rows.specs.volume_rows.declared.volume.Volume.{Volume}
use Rattle.inventory_rules.specs.Segments.{are_all_clear, are_clear}
use Rattle.machine.specs.State.{Core, Ticket, inventory}
use Rattle.hall.specs.Covered.{SpaceIsClear, all_space, are_apart_in, with_segments}
use Rattle.hall.proofs.Apart.{later_joined}
use Rattle.hall.proofs.Edited.{StandsAmong}
use Rattle.hall.proofs.Lists.{same_number}
use Rattle.hall.proofs.Within.{each_split}

-- ---- the database

abbrev table : (pool : ℕ) → List Segment → List (ℕ × Volume)
table pool segments = map (λ s. (s.file, scratch_volume pool s.file 0)) segments

-- with the volumes on which these segments lie, all of them in this pool
abbrev pub in_pool : (pool : ℕ) → List Segment → Inv → Inv
in_pool pool segments v = record v { stores = record v.stores { volumes = table pool segments } }

row_there : (s : PoolRows) (pool : ℕ) (ahead : List Segment) (r : Segment) (back : List Segment) → is_sequential_row s (row_at r.file (table pool (ahead ++ (r ∷ back)))) ≡ is_sequential pool s
row_there s pool [] r back =
    let here : is_at (nat_cmp r.file) r.file ≡ true = same_number r.file r.file ∙ eq-eqb r.file r.file refl in
    ap (λ b. is_sequential_row s (cond b (Some (scratch_volume pool r.file 0)) (row_at r.file (table pool back)))) here
row_there s pool (a ∷ ahead) r back =
    elim (is_at (nat_cmp r.file) a.file) as (λ b. is_sequential_row s (cond b (Some (scratch_volume pool a.file 0)) (row_at r.file (table pool (ahead ++ (r ∷ back))))) ≡ is_sequential pool s) [
      | true ↦ refl
      | false ↦ row_there s pool ahead r back
    ]

-- ---- two segments

abbrev apart_by : (sequential : Bool) → Segment → Segment → Bool
apart_by sequential a b = not (a.file == b.file) || are_clear sequential a b

weaker : (same pool clear actor : Bool) → (not same || (pool && (clear && actor))) ≡ true → (not same || clear) ≡ true
weaker false pool clear actor h = refl
weaker true true true actor h = refl
weaker true true false actor h = h
weaker true false clear actor h = absurd (false≢true h)

all_weaker : {A B : Type 0} (g : A → B) (p : B → Bool) (q : A → Bool) (xs : List A) → ((x : A) → p (g x) ≡ true → q x ≡ true) → list_all p (map g xs) ≡ true → list_all q xs ≡ true
all_weaker g p q [] f h = refl
all_weaker g p q (x ∷ xs) f h = let t = and_parts (p (g x)) (list_all p (map g xs)) h in and_from (q x) (list_all q xs) (f x t.0) (all_weaker g p q xs f t.1)

later_weaker : {A B : Type 0} (g : A → B) (r : B → B → Bool) (q : A → A → Bool) (xs : List A) → ((x y : A) → r (g x) (g y) ≡ true → q x y ≡ true) → all_later r (map g xs) ≡ true → all_later q xs ≡ true
later_weaker g r q [] f h = refl
later_weaker g r q (x ∷ xs) f h =
    let t = and_parts (list_all (r (g x)) (map g xs)) (all_later r (map g xs)) h in
    and_from (list_all (q x) xs) (all_later q xs) (all_weaker g (r (g x)) (q x) xs (f x) t.0) (later_weaker g r q xs f t.1)

all_front : {A : Type 0} (p : A → Bool) (xs ys : List A) → list_all p (xs ++ ys) ≡ true → list_all p xs ≡ true
all_front p [] ys h = refl
all_front p (x ∷ xs) ys h = let t = and_parts (p x) (list_all p (xs ++ ys)) h in and_from (p x) (list_all p xs) t.0 (all_front p xs ys t.1)

later_front : {A : Type 0} (r : A → A → Bool) (xs ys : List A) → all_later r (xs ++ ys) ≡ true → all_later r xs ≡ true
later_front r [] ys h = refl
later_front r (x ∷ xs) ys h =
    let t = and_parts (list_all (r x) (xs ++ ys)) (all_later r (xs ++ ys)) h in
    and_from (list_all (r x) xs) (all_later r xs) (all_front (r x) xs ys t.0) (later_front r xs ys t.1)

-- ---- of one ticket

flagged : (s : PoolRows) (sequential : Bool) (segments : List Segment) → AllByRecursion (λ a. is_sequential_at a.file s ≡ sequential) segments → all_later (apart_by sequential) segments ≡ true
    → all_later (λ a b. not (a.file == b.file) || are_clear (is_sequential_at a.file s) a b) segments ≡ true
flagged s sequential [] flags h = refl
flagged s sequential (a ∷ segments) flags h =
    let t = and_parts (list_all (apart_by sequential a) segments) (all_later (apart_by sequential) segments) h in
    and_from (list_all (λ b. not (a.file == b.file) || are_clear (is_sequential_at a.file s) a b) segments)
    (all_later (λ a b. not (a.file == b.file) || are_clear (is_sequential_at a.file s) a b) segments)
    (subst (λ q. list_all (λ b. not (a.file == b.file) || are_clear q a b) segments ≡ true) (sym flags.0) t.0)
    (flagged s sequential segments flags.1 t.1)

pub own_clear : (actor number : ℕ) (c : Core) (t : Ticket) → StandsAmong actor number t c.tickets → SpaceIsClear c → are_all_clear (in_pool t.place.pool t.place.segments (inventory c)) t.place.segments ≡ true
own_clear actor number c t among space =
    let v : Inv = inventory c in
    let segments : List Segment = t.place.segments in
    let sequential : Bool = is_sequential t.place.pool v.stores in
    let all : all_later (are_apart_in v) (all_space among.front ++ (with_segments t ++ all_space among.back)) ≡ true =
    subst (λ l. all_later (are_apart_in v) l ≡ true) (ap all_space among.whole ∙ flat_map-append with_segments among.front (t ∷ among.back)) space.apart in
    let own : all_later (are_apart_in v) (with_segments t) ≡ true =
    later_front (are_apart_in v) (with_segments t) (all_space among.back) (later_joined (are_apart_in v) (all_space among.front) (with_segments t ++ all_space among.back) all).1 in
    let s : PoolRows = (in_pool t.place.pool segments v).stores in
    flagged s sequential segments
    (each_split (λ a. is_sequential_at a.file s ≡ sequential) segments [] segments refl
    (λ ahead beyond a e. ap (λ (l : List Segment). is_sequential_row s (row_at a.file (table t.place.pool l))) e ∙ row_there s t.place.pool ahead a beyond))
    (later_weaker (λ (r : Segment). (t, r)) (are_apart_in v) (apart_by sequential) segments
    (λ a b h. weaker (a.file == b.file) (t.place.pool == t.place.pool) (are_clear sequential a b) (not sequential || t.actor == t.actor) h) own)
