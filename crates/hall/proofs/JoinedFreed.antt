-- What the hall keeps of the space beside the copies, behind a transaction that joined.
use Rattle.std.proofs.Common.{◌≡◌, ℕ, ◌+◌, ◌<◌, ◌≤◌, suc, Bool, true, List, [], ◌∷◌, ◌++◌, map, Some, refl, sym, ap, subst, arith}
use Rattle.std.specs.Prelude.{IfSome, nat_le}
use Rattle.std.specs.List.{AllByRecursion, Contains, list_all}
use Rattle.std.specs.Ordering.{is_eq, match_ordering, nat_cmp}
use Rattle.std.specs.declared.cmp.Ordering.TheVariants.{Less, Equal, Greater}
use Rattle.std.proofs.lemmas.Bool.{and_from, and_parts, le-leb, leb-true}
use Rattle.kinds.specs.declared.segment.Segment.{Segment}
use Rattle.entries.specs.declared.change.Change.{Change}
use Rattle.entries.specs.declared.entry.Entry.{Entry}
use Rattle.inventory_rows.specs.version_groups.Entries.{all_later}
use Rattle.inventory_rows.specs.volume_rows.declared.volume.Volume.{Volume}
use Rattle.inventory_rows.specs.pool_tables.Rows.{row_at, with_row}
use Rattle.inventory_rows.specs.State.{Inv}
use Rattle.inventory_rules.specs.Transactions.{effect}
use Rattle.inventory_rows.proofs.of_pool_tables.Counting.{at_is}
use Rattle.inventory_laws.proofs.Lists.{all_from, all_of, each_also}
use Rattle.inventory_laws.proofs.Origins.{contained_holds, each_contained}
use Rattle.space.specs.declared.places.Placed.{Placed}
use Rattle.machine.specs.Machine.{freed, left_by}
use Rattle.machine.specs.State.{after}
use Rattle.hall.specs.Joined.{taken_by}
use Rattle.hall.specs.Placed.{IsFreed, IsNoted}
use Rattle.hall.proofs.Pairs.{each_appended, each_map, each_two}
use Rattle.hall.proofs.Runs.{freed_by}

-- ---- elements

pub contains_first : {X : Type 0} (x : X) (xs : List X) → Contains (x ∷ xs) x
contains_first x xs = (0, omega arith, refl)

pub contains_behind : {X : Type 0} (xs : List X) (y x : X) → Contains xs x → Contains (y ∷ xs) x
contains_behind xs y x c = (suc c.0, omega (arith, c.1), c.2)

pub contains_front : {X : Type 0} (xs ys : List X) (x : X) → Contains xs x → Contains (xs ++ ys) x
contains_front xs ys x c = contained_holds (Contains (xs ++ ys)) xs x c (go xs ys) where
  go : {X : Type 0} (xs ys : List X) → AllByRecursion (Contains (xs ++ ys)) xs
  go [] ys = tt
  go (y ∷ xs) ys = (contains_first y (xs ++ ys), each_also (Contains (xs ++ ys)) (Contains (y ∷ (xs ++ ys))) xs (λ z c. contains_behind (xs ++ ys) y z c) (go xs ys))

pub contains_back : {X : Type 0} (xs ys : List X) (y : X) → Contains ys y → Contains (xs ++ ys) y
contains_back [] ys y c = c
contains_back (x ∷ xs) ys y c = contains_behind (xs ++ ys) x y (contains_back xs ys y c)

pub contains_map : {X Y : Type 0} (f : X → Y) (xs : List X) (x : X) → Contains xs x → Contains (map f xs) (f x)
contains_map f xs x c = contained_holds (λ y. Contains (map f xs) (f y)) xs x c (go f xs) where
  go : {X Y : Type 0} (f : X → Y) (xs : List X) → AllByRecursion (λ y. Contains (map f xs) (f y)) xs
  go f [] = tt
  go f (y ∷ xs) = (contains_first (f y) (map f xs), each_also (λ z. Contains (map f xs) (f z)) (λ z. Contains (f y ∷ map f xs) (f z)) xs (λ z c. contains_behind (map f xs) (f y) (f z) c) (go f xs))

-- ---- a row comes

module _ {V : Type 0} (k : ℕ) (new : V) where
  abbrev with_new : List (ℕ × V) → List (ℕ × V)
  with_new rows = with_row k new rows

  -- it is there
  pub row_came : (rows : List (ℕ × V)) → Contains (with_new rows) (k, new)
  row_came [] = contains_first (k, new) []
  row_came (e ∷ rows) = elim (nat_cmp k e.0) as (λ o. nat_cmp k e.0 ≡ o → Contains (match_ordering o ((k, new) ∷ e ∷ rows) ((e.0, new) ∷ rows) (e ∷ with_new rows)) (k, new)) [
    | Less ↦ λ _. contains_first (k, new) (e ∷ rows)
    | Equal ↦ λ is. subst (λ n. Contains ((e.0, new) ∷ rows) (n, new)) (sym (at_is k e.0 (ap is_eq is))) (contains_first (e.0, new) rows)
    | Greater ↦ λ _. contains_behind (with_new rows) e (k, new) (row_came rows)
  ] refl

  -- rows under other numbers stay
  pub rows_stay : (rows : List (ℕ × V)) → AllByRecursion (λ (e : ℕ × V). (k ≡ e.0 → ⊥) → Contains (with_new rows) e) rows
  rows_stay [] = tt
  rows_stay (e ∷ rows) =
      elim (nat_cmp k e.0) as
      (λ o. nat_cmp k e.0 ≡ o → AllByRecursion (λ (f : ℕ × V). (k ≡ f.0 → ⊥) → Contains (match_ordering o ((k, new) ∷ e ∷ rows) ((e.0, new) ∷ rows) (e ∷ with_new rows)) f) (e ∷ rows)) [
        | Less ↦ λ _. each_also (Contains (e ∷ rows)) (λ (f : ℕ × V). (k ≡ f.0 → ⊥) → Contains ((k, new) ∷ e ∷ rows) f) (e ∷ rows) (λ f c ne. contains_behind (e ∷ rows) (k, new) f c) (each_contained (e ∷ rows))
        | Equal ↦ λ is. (
          (λ ne. absurd (ne (at_is k e.0 (ap is_eq is)))),
          each_also (Contains rows) (λ (f : ℕ × V). (k ≡ f.0 → ⊥) → Contains ((e.0, new) ∷ rows) f) rows (λ f c ne. contains_behind rows (e.0, new) f c) (each_contained rows),
        )
        | Greater ↦ λ _. (
          (λ ne. contains_first e (with_new rows)),
          each_also (λ (f : ℕ × V). (k ≡ f.0 → ⊥) → Contains (with_new rows) f) (λ (f : ℕ × V). (k ≡ f.0 → ⊥) → Contains (e ∷ with_new rows) f) rows
              (λ f c ne. contains_behind (with_new rows) e f (c ne)) (rows_stay rows),
        )
      ] refl

  -- each is one of those, or the new one
  pub each_with : (P : ℕ × V → Type 0) → P (k, new) → (rows : List (ℕ × V)) → AllByRecursion P rows → AllByRecursion P (with_new rows)
  each_with P here [] all = (here, tt)
  each_with P here (e ∷ rows) all =
      elim (nat_cmp k e.0) as (λ o. nat_cmp k e.0 ≡ o → AllByRecursion P (match_ordering o ((k, new) ∷ e ∷ rows) ((e.0, new) ∷ rows) (e ∷ with_new rows))) [
        | Less ↦ λ _. (here, all)
        | Equal ↦ λ is. (subst (λ n. P (n, new)) (at_is k e.0 (ap is_eq is)) here, all.1)
        | Greater ↦ λ _. (all.0, each_with P here rows all.1)
      ] refl

  abbrev rising : ℕ × V → ℕ × V → Bool
  rising a b = nat_le (a.0 + 1) b.0

  less_than : (a b : ℕ) → nat_cmp a b ≡ Less → a < b
  less_than a b h = grind arith

  more_than : (a b : ℕ) → nat_cmp a b ≡ Greater → b < a
  more_than a b h = grind arith

  pub rows_rise : (rows : List (ℕ × V)) → all_later rising rows ≡ true → all_later rising (with_new rows) ≡ true
  rows_rise [] h = refl
  rows_rise (e ∷ rows) h =
      let parts = and_parts (list_all (rising e) rows) (all_later rising rows) h in
      elim (nat_cmp k e.0) as (λ o. nat_cmp k e.0 ≡ o → all_later rising (match_ordering o ((k, new) ∷ e ∷ rows) ((e.0, new) ∷ rows) (e ∷ with_new rows)) ≡ true) [
        | Less ↦ λ is.
            let lt : k < e.0 = less_than k e.0 is in
            and_from (list_all (rising (k, new)) (e ∷ rows)) (all_later rising (e ∷ rows))
            (and_from (nat_le (k + 1) e.0) (list_all (rising (k, new)) rows) (le-leb (k + 1) e.0 (omega (arith, lt)))
            (all_from (rising (k, new)) rows (each_also (λ (f : ℕ × V). rising e f ≡ true) (λ (f : ℕ × V). rising (k, new) f ≡ true) rows
            (λ f up. let le = leb-true (e.0 + 1) f.0 up in le-leb (k + 1) f.0 (omega (arith, lt, le))) (all_of (rising e) rows parts.0)))) h
        | Equal ↦ λ _. h
        | Greater ↦ λ is.
            let lt : e.0 < k = more_than k e.0 is in
            and_from (list_all (rising e) (with_new rows)) (all_later rising (with_new rows))
            (all_from (rising e) (with_new rows) (each_with (λ (f : ℕ × V). rising e f ≡ true) (le-leb (e.0 + 1) k (omega (arith, lt))) rows (all_of (rising e) rows parts.0)))
            (rows_rise rows parts.1)
      ] refl

-- ---- numbers of what is freed

pub number_behind : (x : Change) (v : Inv) → (effect x v).number ≡ v.number + 1
unfolding effect
number_behind x v = refl

rises_to : (v : Inv) (es : List Entry) → v.number ≤ (after v es).number
rises_to v [] = omega arith
rises_to v (e ∷ es) = let rest : (effect e.change v).number ≤ (after (effect e.change v) es).number = rises_to (effect e.change v) es in let one = number_behind e.change v in omega (arith, rest, one)

pub freed_before : (v : Inv) (es : List Entry) → AllByRecursion (λ (a : ℕ × Segment). a.0 ≤ (after v es).number) (freed v es)
freed_before v [] = tt
freed_before v (e ∷ es) =
    each_appended (λ (a : ℕ × Segment). a.0 ≤ (after v (e ∷ es)).number) (freed_by v e) (freed (effect e.change v) es)
    (each_map (λ (a : ℕ × Segment). a.0 ≤ (after v (e ∷ es)).number) (λ (s : Segment). ((effect e.change v).number, s)) (left_by v (effect e.change v)) (all_so (left_by v (effect e.change v))))
    (freed_before (effect e.change v) es)
  where
    all_so : (list : List Segment) → AllByRecursion (λ (s : Segment). (effect e.change v).number ≤ (after v (e ∷ es)).number) list
    all_so [] = tt
    all_so (s ∷ list) = (rises_to (effect e.change v) es, all_so list)

-- ---- what a transaction takes away is what is noted

pub record TakesAway (x : Change) (v : Inv) : Type 0 where
  pub noted : AllByRecursion (λ s. (p : Placed) × Contains (taken_by x v) p × (p.segment ≡ s)) (left_by v (effect x v))
  pub freed : AllByRecursion (λ (p : Placed). Contains (left_by v (effect x v)) p.segment × ((volume : Volume) × (row_at p.segment.file v.stores.volumes ≡ Some volume) × (p.pool ≡ volume.pool))) (taken_by x v)

-- what it takes away, by its number
module _ (x : Change) (v : Inv) (takes : TakesAway x v) (old : List (ℕ × Segment)) (rows : List (ℕ × List Placed)) (before : AllByRecursion (λ (a : ℕ × Segment). a.0 ≤ v.number) old)
    (stays : (file : ℕ) (pool : ℕ) (number : ℕ) (s : Segment) → Contains old (number, s) → s.file ≡ file → IfSome (row_at file v.stores.volumes) (λ volume. pool ≡ volume.pool) → IfSome (row_at file (effect x v).stores.volumes) (λ volume. pool ≡ volume.pool))
    (still : (file : ℕ) (volume : Volume) → row_at file v.stores.volumes ≡ Some volume → IfSome (row_at file (effect x v).stores.volumes) (λ new. volume.pool ≡ new.pool)) where
  abbrev now_freed : List (ℕ × Segment)
  now_freed = old ++ map (λ s. ((effect x v).number, s)) (left_by v (effect x v))

  abbrev now_rows : List (ℕ × List Placed)
  now_rows = with_row (v.number + 1) (taken_by x v) rows

  pub all_noted : ((number : ℕ) (s : Segment) → Contains old (number, s) → IsNoted rows number s) → (number : ℕ) (s : Segment) → Contains now_freed (number, s) → IsNoted now_rows number s
  all_noted noted number s there =
      contained_holds (λ (a : ℕ × Segment). IsNoted now_rows a.0 a.1) now_freed (number, s) there
      (each_appended (λ (a : ℕ × Segment). IsNoted now_rows a.0 a.1) old (map (λ s. ((effect x v).number, s)) (left_by v (effect x v)))
      (each_also (λ (a : ℕ × Segment). Contains old a × (a.0 ≤ v.number)) (λ (a : ℕ × Segment). IsNoted now_rows a.0 a.1) old (λ a h. kept a.0 a.1 h.1 (noted a.0 a.1 h.0)) (each_two (Contains old) (λ (a : ℕ × Segment). a.0 ≤ v.number) old (each_contained old) before))
      (each_map (λ (a : ℕ × Segment). IsNoted now_rows a.0 a.1) (λ s. ((effect x v).number, s)) (left_by v (effect x v))
      (each_also (λ s. (p : Placed) × Contains (taken_by x v) p × (p.segment ≡ s)) (λ s. IsNoted now_rows (effect x v).number s) (left_by v (effect x v))
      (λ s h. (taken_by x v, h.0, subst (λ n. Contains now_rows (n, taken_by x v)) (sym (number_behind x v)) (row_came (v.number + 1) (taken_by x v) rows), h.1, h.2)) takes.noted)))
    where
      kept : (n : ℕ) (s : Segment) → n ≤ v.number → IsNoted rows n s → IsNoted now_rows n s
      kept n s low is =
          (is.0, is.1, contained_holds (λ (e : ℕ × List Placed). (v.number + 1 ≡ e.0 → ⊥) → Contains now_rows e) rows (n, is.0) is.2 (rows_stay (v.number + 1) (taken_by x v) rows) (λ same. omega (arith, same, low)), is.3, is.4)

  pub all_freed : ((number : ℕ) (places : List Placed) (p : Placed) → Contains rows (number, places) → Contains places p → IsFreed v old number p)
      → (number : ℕ) (places : List Placed) (p : Placed) → Contains now_rows (number, places) → Contains places p → IsFreed (effect x v) now_freed number p
  all_freed was number places p there within =
      contained_holds (λ (e : ℕ × List Placed). (q : Placed) → Contains e.1 q → IsFreed (effect x v) now_freed e.0 q) now_rows (number, places) there
      (each_with (v.number + 1) (taken_by x v) (λ (e : ℕ × List Placed). (q : Placed) → Contains e.1 q → IsFreed (effect x v) now_freed e.0 q) new rows
      (each_also (Contains rows) (λ (e : ℕ × List Placed). (q : Placed) → Contains e.1 q → IsFreed (effect x v) now_freed e.0 q) rows old_one (each_contained rows))) p within
    where
      new : (q : Placed) → Contains (taken_by x v) q → IsFreed (effect x v) now_freed (v.number + 1) q
      new q here =
          let is = contained_holds (λ (p : Placed). Contains (left_by v (effect x v)) p.segment × ((volume : Volume) × (row_at p.segment.file v.stores.volumes ≡ Some volume) × (p.pool ≡ volume.pool))) (taken_by x v) q here takes.freed in (
            subst (λ n. Contains now_freed (n, q.segment)) (number_behind x v)
                (contains_back old (map (λ s. ((effect x v).number, s)) (left_by v (effect x v))) ((effect x v).number, q.segment)
                (contains_map (λ s. ((effect x v).number, s)) (left_by v (effect x v)) q.segment is.0)),
            subst (λ pool. IfSome (row_at q.segment.file (effect x v).stores.volumes) (λ volume. pool ≡ volume.pool)) (sym is.1.2) (still q.segment.file is.1.0 is.1.1),
          )

      old_one : (e : ℕ × List Placed) → Contains rows e → (q : Placed) → Contains e.1 q → IsFreed (effect x v) now_freed e.0 q
      old_one e there q here =
          let is = was e.0 e.1 q there here in (
            contains_front old (map (λ s. ((effect x v).number, s)) (left_by v (effect x v))) (e.0, q.segment) is.0,
            stays q.segment.file q.pool e.0 q.segment is.0 refl is.1,
          )
