-- Copies that move: the new segments come, and the former ones go.
use Rattle.std.proofs.Common.{◌≡◌, ℕ, ◌+◌, true, false, cond, not, eqb, ◌&&◌, ◌||◌, nat_lt, List, [], ◌∷◌, ◌++◌, length, map, Option, Some, None, Result, Ok, Err, refl, sym, ap, subst, ◌∙◌, arith}
use Rattle.std.specs.Prelude.{◌==◌, nat_le}
use Rattle.std.specs.List.{AllByRecursion, list_all, find, flat_map, sum_by}
use Rattle.std.specs.Option.{option_map_or}
use Rattle.std.proofs.lemmas.Bool.{eqb-true, eqb-false, ne_eqb, ltb-true, not-true}
use Rattle.std.proofs.lemmas.List.Sums.{sum_by-cons}
use Rattle.kinds.specs.declared.refusal.Refusal.{Refusal}
use Rattle.kinds.specs.declared.refusal.Refusal.TheVariants.{NotFound}
use Rattle.inventory_rules.specs.entries.change_items.declared.items.MovedCopy.{MovedCopy}
use Rattle.inventory_rules.specs.entries.change_items.declared.lists.MovedCopies.{MovedCopies}
use Rattle.inventory_rules.specs.entries.declared.change.Change.TheVariants as change
use Rattle.inventory_rules.specs.inventory_rows.version_groups.declared.copies.CopyChange.TheVariants as copy
use Rattle.inventory_rules.specs.inventory_rows.version_groups.declared.copies.CopyRow.{CopyRow}
use Rattle.inventory_rules.specs.inventory_rows.version_groups.declared.versions.Version.{Version}
use Rattle.inventory_rules.specs.inventory_rows.version_groups.Copies.{are_by_pool, copies_after, has_copy, with_copy, without_copy}
use Rattle.inventory_rules.specs.inventory_rows.version_groups.Entries.{is_nil}
use Rattle.inventory_rules.specs.inventory_rows.version_groups.Versions.{are_distinct, having_copies, version_of, with_copies}
use Rattle.inventory_rules.specs.inventory_rows.object_rows.Rows.{kept_of, rows_copied}
use Rattle.inventory_rules.specs.inventory_rows.Items.{count_items}
use Rattle.inventory_rules.specs.inventory_rows.Search.{copy_in, versions}
use Rattle.inventory_rules.specs.inventory_rows.State.{Inv}
use Rattle.inventory_rules.specs.Common.{each}
use Rattle.inventory_rules.specs.Copies.{move_copy, placed_now, put_moved, segments_in, take_moved, version_at, copy_refused, move_refused, moved_refused, placed_by, stale_copy, segments_left}
use Rattle.inventory_rules.specs.Segments.{make_scratch, scratch_refused}
use Rattle.inventory_rules.specs.Transactions.{effect}
use Rattle.inventory_rules.specs.Journal.{Journal}
use Rattle.kinds.specs.Refusals.{bad_value, unless}
use Rattle.inventory_rules.specs.Versions.{name_once, of_version}
use Rattle.inventory_rules.specs.Valid.{is_copied, primary_copies, versions_are_copied}
use Rattle.inventory_rules.proofs.CopiedLists.{kept_of-copied}
use Rattle.inventory_rules.proofs.Touched.{effect-data}
use Rattle.inventory_laws.proofs.Facts.{first, rest}
use Rattle.inventory_laws.proofs.Absent.{unless_holds}
use Rattle.inventory_laws.proofs.CopyCounts.{altered_is, distinct_copied, in_copies-with}
use Rattle.inventory_laws.proofs.Flat.{in_copies, in_rows, in_rows-copied}
use Rattle.inventory_laws.proofs.Kept.{object-having}
use Rattle.inventory_laws.proofs.CountedParts.{nothing_first, nothing_then}
use Rattle.inventory_laws.proofs.Stays.{Scratched, Stays, data_more, put_stays, scratched, stays, take_away_stays, then}
use Rattle.inventory_laws.proofs.Weights.{weigh-cons}

-- ---- the copies but one

-- copies in pools of higher numbers stay
higher_stay : (pool from : ℕ) (cs : List CopyRow) → pool ≡ from → list_all (λ c. nat_lt pool c.pool) cs ≡ true → without_copy from cs ≡ cs
higher_stay pool from [] e h = refl
higher_stay pool from (c ∷ cs) e h =
    let lt : nat_lt pool c.pool ≡ true = first (nat_lt pool c.pool) (list_all (λ d. nat_lt pool d.pool) cs) h in
    let off : eqb c.pool from ≡ false = ne_eqb c.pool from (λ same. absurd (omega (arith, ltb-true pool c.pool lt, same, e))) in
    ap (λ b. cond (not b) (c ∷ without_copy from cs) (without_copy from cs)) off ∙ ap (λ t. c ∷ t) (higher_stay pool from cs e (rest (nat_lt pool c.pool) (list_all (λ d. nat_lt pool d.pool) cs) h))

behind : (a b c d k n : ℕ) → a ≡ 1 + (k + b) → c ≡ 1 + (k + d) → b + (1 + n) ≡ d → a + (1 + n) ≡ c
behind a b c d k n h g e = omega (arith, h, g, e)

leaves : (b c n : ℕ) → c ≡ 1 + (n + b) → b + (1 + n) ≡ c
leaves b c n h = omega (arith, h)

-- the copy in the pool and its segments go
in_copies-without : (from : ℕ) (cs : List CopyRow) (old : CopyRow) → are_by_pool cs ≡ true → find (λ c. c.pool == from) cs ≡ Some old → in_copies (without_copy from cs) + (1 + length old.segments) ≡ in_copies cs
in_copies-without from [] old s h = absurd cc
in_copies-without from (c ∷ cs) old s h =
    elim (eqb c.pool from) as (λ b. eqb c.pool from ≡ b → cond b (Some c) (find (λ x. x.pool == from) cs) ≡ Some old → in_copies (cond (not b) (c ∷ without_copy from cs) (without_copy from cs)) + (1 + length old.segments) ≡ in_copies (c ∷ cs)) [
      | true ↦ λ t g.
          let same : c ≡ old = cc in
          ap (λ (x : CopyRow). in_copies (without_copy from cs) + (1 + length x.segments)) (sym same)
          ∙ ap (λ l. in_copies l + (1 + length c.segments)) (higher_stay c.pool from cs (eqb-true c.pool from t) (first (list_all (λ d. nat_lt c.pool d.pool) cs) (are_by_pool cs) s))
          ∙ leaves (in_copies cs) (in_copies (c ∷ cs)) (length c.segments) (weigh-cons (λ (x : CopyRow). length x.segments) c cs)
      | false ↦ λ t g.
          behind (in_copies (c ∷ without_copy from cs)) (in_copies (without_copy from cs)) (in_copies (c ∷ cs)) (in_copies cs) (length c.segments) (length old.segments)
          (weigh-cons (λ (x : CopyRow). length x.segments) c (without_copy from cs)) (weigh-cons (λ (x : CopyRow). length x.segments) c cs)
          (in_copies-without from cs old (rest (list_all (λ d. nat_lt c.pool d.pool) cs) (are_by_pool cs) s) g)
    ] refl h

found_has : (from : ℕ) (cs : List CopyRow) (old : CopyRow) → find (λ c. c.pool == from) cs ≡ Some old → has_copy from cs ≡ true
found_has from [] old h = absurd cc
found_has from (c ∷ cs) old h =
    elim (eqb c.pool from) as (λ b. cond b (Some c) (find (λ x. x.pool == from) cs) ≡ Some old → (b || has_copy from cs) ≡ true) [
      | true ↦ λ g. refl
      | false ↦ λ g. found_has from cs old g
    ] h

-- ---- versions of other objects

others_stay : (k j : ℕ) (cs : List CopyRow) (vs : List Version) → (k ≡ j → ⊥) → version_of j (with_copies k cs vs) ≡ version_of j vs
others_stay k j cs [] ne = refl
others_stay k j cs (v ∷ vs) ne =
    ap (λ n. cond (eqb n j) (Some (having_copies k cs v)) (version_of j (with_copies k cs vs))) (object-having k cs v)
    ∙ elim (eqb v.object j) as (λ b. eqb v.object j ≡ b → cond b (Some (having_copies k cs v)) (version_of j (with_copies k cs vs)) ≡ cond b (Some v) (version_of j vs)) [
      | true ↦ λ t.
          let away : eqb v.object k ≡ false = ne_eqb v.object k (λ same. ne (sym same ∙ eqb-true v.object j t)) in
          ap (λ b. Some (cond {A = Version} b (record v { copies = cs }) v)) away
      | false ↦ λ _. others_stay k j cs vs ne
    ] refl

-- ---- a copy that may move: its version is there, and its copy in the pool that it leaves

pub record Movable (vs : List Version) (item : MovedCopy) : Type 0 where
  pub version : Version
  pub there : version_of item.object vs ≡ Some version
  pub by_pool : are_by_pool version.copies ≡ true
  pub old : CopyRow
  pub copied : find (λ c. c.pool == item.from) version.copies ≡ Some old

abbrev left_in : List Version → MovedCopy → ℕ
left_in vs i = length (segments_in i.from (version_of i.object vs))

abbrev of_move : MovedCopy → ℕ
of_move i = length i.segments

exchanged : (a w f n m s o : ℕ) → a + w ≡ f + n → n ≡ 1 + (s + m) → m + (1 + o) ≡ w → a + o ≡ f + s
exchanged a w f n m s o h g e = omega (arith, h, g, e)

-- what stands once a copy has moved
record CopyMoved (item : MovedCopy) (v w : Inv) : Type 0 where
  pub adds : in_rows w.clients + left_in (versions v) item ≡ in_rows v.clients + of_move item
  pub volumes : length w.stores.volumes ≡ length v.stores.volumes
  pub distinct : are_distinct (versions w) ≡ true
  pub others : (j : ℕ) → (item.object ≡ j → ⊥) → version_of j (versions w) ≡ version_of j (versions v)

copy_moved : (item : MovedCopy) (v : Inv) → are_distinct (versions v) ≡ true → Movable (versions v) item → CopyMoved item v (move_copy item v)
copy_moved item v d m =
    let u : Inv = take_moved item v in
    let s : Stays v u = take_away_stays item.object (segments_in item.from (version_at item.object v)) v in
    let row : CopyRow = placed_now item.pool item.segments v in
    let left : List CopyRow = without_copy item.from m.version.copies in
    let cs : List CopyRow = with_copy row left in
    let same : u.clients ≡ v.clients = s.clients in
    let there : version_of item.object (versions u) ≡ Some m.version = ap (λ c. version_of item.object (kept_of c)) same ∙ m.there in
    let given : copies_after (copy.Replace item.from row) m.version.copies ≡ Ok cs = ap (λ b. cond {A = Result (List CopyRow) Refusal} b (Ok cs) (Err NotFound)) (found_has item.from m.version.copies m.old m.copied) in
    let now : (move_copy item v).clients ≡ rows_copied item.object cs v.clients =
    altered_is item.object (copy.Replace item.from row) u.clients m.version cs there given ∙ ap (rows_copied item.object cs) same in
    let was : left_in (versions v) item ≡ length m.old.segments =
    ap (λ o. length (segments_in item.from o)) m.there ∙ ap (λ (o : Option CopyRow). length (option_map_or (λ c. c.segments) o [])) m.copied in
    record {
      adds = ap (λ n. in_rows (move_copy item v).clients + n) was ∙ ap (λ c. in_rows c + length m.old.segments) now
          ∙ exchanged (in_rows (rows_copied item.object cs v.clients)) (in_copies m.version.copies) (in_rows v.clients) (in_copies cs) (in_copies left) (length item.segments) (length m.old.segments)
          (in_rows-copied item.object cs v.clients m.version d m.there) (in_copies-with row left) (in_copies-without item.from m.version.copies m.old m.by_pool m.copied);
      volumes = s.volumes;
      distinct = ap (λ c. are_distinct (kept_of c)) now ∙ distinct_copied item.object cs v.clients d;
      others = λ j ne. ap (λ c. version_of j (kept_of c)) now ∙ ap (version_of j) (kept_of-copied item.object cs v.clients) ∙ others_stay item.object j cs (versions v) ne;
    }

-- ---- items one after the other

-- the version is the one that it was
movable_still : (vs ws : List Version) (i : MovedCopy) → version_of i.object ws ≡ version_of i.object vs → Movable vs i → Movable ws i
movable_still vs ws i same m = record { version = m.version; there = same ∙ m.there; by_pool = m.by_pool; old = m.old; copied = m.copied }

-- of those that name other objects all is as it was
all_movable : (k : ℕ) (vs ws : List Version) → ((j : ℕ) → (k ≡ j → ⊥) → version_of j ws ≡ version_of j vs) → (items : List MovedCopy) → list_all (λ o. not (k == o)) (map (λ i. i.object) items) ≡ true → AllByRecursion (Movable vs) items → AllByRecursion (Movable ws) items
all_movable k vs ws same [] a all = tt
all_movable k vs ws same (i ∷ items) a all =
    let ne : eqb k i.object ≡ false = not-true (eqb k i.object) (first (not (k == i.object)) (list_all (λ o. not (k == o)) (map (λ x. x.object) items)) a) in (
      movable_still vs ws i (same i.object (eqb-false k i.object ne)) all.0,
      all_movable k vs ws same items (rest (not (k == i.object)) (list_all (λ o. not (k == o)) (map (λ x. x.object) items)) a) all.1,
    )

all_left : (k : ℕ) (vs ws : List Version) → ((j : ℕ) → (k ≡ j → ⊥) → version_of j ws ≡ version_of j vs) → (items : List MovedCopy) → list_all (λ o. not (k == o)) (map (λ i. i.object) items) ≡ true → sum_by (left_in ws) items ≡ sum_by (left_in vs) items
all_left k vs ws same [] a = refl
all_left k vs ws same (i ∷ items) a =
    let ne : eqb k i.object ≡ false = not-true (eqb k i.object) (first (not (k == i.object)) (list_all (λ o. not (k == o)) (map (λ x. x.object) items)) a) in
    let here : left_in ws i ≡ left_in vs i = ap (λ o. length (segments_in i.from o)) (same i.object (eqb-false k i.object ne)) in
    let more : sum_by (left_in ws) items ≡ sum_by (left_in vs) items = all_left k vs ws same items (rest (not (k == i.object)) (list_all (λ o. not (k == o)) (map (λ x. x.object) items)) a) in
    sum_by-cons (left_in ws) i items ∙ ap (λ n. n + sum_by (left_in ws) items) here ∙ ap (λ n. left_in vs i + n) more ∙ sym (sum_by-cons (left_in vs) i items)

moved_more : (a b f o s p q r t : ℕ) → a + p ≡ b + q → b + o ≡ f + s → r ≡ o + p → t ≡ s + q → a + r ≡ f + t
moved_more a b f o s p q r t h g e i = omega (arith, h, g, e, i)

record CopiesMoved (items : List MovedCopy) (v w : Inv) : Type 0 where
  pub adds : in_rows w.clients + sum_by (left_in (versions v)) items ≡ in_rows v.clients + sum_by of_move items
  pub volumes : length w.stores.volumes ≡ length v.stores.volumes

copies_moved : (items : List MovedCopy) (v : Inv) → are_distinct (versions v) ≡ true → name_once (map (λ i. i.object) items) ≡ true → AllByRecursion (Movable (versions v)) items → CopiesMoved items v (each move_copy items v)
copies_moved [] v d a all = record { adds = refl; volumes = refl }
copies_moved (i ∷ items) v d a all =
    let w : Inv = move_copy i v in
    let vs : List Version = versions v in
    let ws : List Version = versions w in
    let m : CopyMoved i v w = copy_moved i v d all.0 in
    let apart : list_all (λ o. not (i.object == o)) (map (λ x. x.object) items) ≡ true = first (list_all (λ o. not (i.object == o)) (map (λ x. x.object) items)) (name_once (map (λ x. x.object) items)) a in
    let r : CopiesMoved items w (each move_copy items w) =
    copies_moved items w m.distinct (rest (list_all (λ o. not (i.object == o)) (map (λ x. x.object) items)) (name_once (map (λ x. x.object) items)) a) (all_movable i.object vs ws m.others items apart all.1) in
    let adds : in_rows (each move_copy items w).clients + sum_by (left_in vs) items ≡ in_rows w.clients + sum_by of_move items =
    ap (λ n. in_rows (each move_copy items w).clients + n) (sym (all_left i.object vs ws m.others items apart)) ∙ r.adds in
    record {
      adds = moved_more (in_rows (each move_copy items w).clients) (in_rows w.clients) (in_rows v.clients) (left_in vs i) (of_move i) (sum_by (left_in vs) items) (sum_by of_move items) (sum_by (left_in vs) (i ∷ items)) (sum_by of_move (i ∷ items))
          adds m.adds (sum_by-cons (left_in vs) i items) (sum_by-cons of_move i items);
      volumes = r.volumes ∙ m.volumes;
    }

put_all_stays : (items : List MovedCopy) (v : Inv) → Stays v (each put_moved items v)
put_all_stays [] v = stays v
put_all_stays (i ∷ items) v = then (put_stays i.object i.segments v) (put_all_stays items (put_moved i v))

-- ---- what isn't refused of a list of copies that move

placed_there : (placed : ℕ) (o : Option CopyRow) → placed_by placed o ≡ true → (c : CopyRow) × (o ≡ Some c)
placed_there placed None h = absurd cc
placed_there placed (Some c) h = (c, refl)

by_pool_of : (v : Inv) (x : Version) → is_copied v x ≡ true → are_by_pool x.copies ≡ true
by_pool_of v x h =
    let few : (nat_le (length (primary_copies v x)) 1 && (are_by_pool x.copies && list_all (λ c. sum_by (λ s. s.len) c.segments == x.size) x.copies)) ≡ true =
    rest (not (is_nil x.copies)) (nat_le (length (primary_copies v x)) 1 && (are_by_pool x.copies && list_all (λ c. sum_by (λ s. s.len) c.segments == x.size) x.copies)) h in
    let by_pool : (are_by_pool x.copies && list_all (λ c. sum_by (λ s. s.len) c.segments == x.size) x.copies) ≡ true =
    rest (nat_le (length (primary_copies v x)) 1) (are_by_pool x.copies && list_all (λ c. sum_by (λ s. s.len) c.segments == x.size) x.copies) few in
    first (are_by_pool x.copies) (list_all (λ c. sum_by (λ s. s.len) c.segments == x.size) x.copies) by_pool

-- the copies of a version that is found stand by pool where those of all versions do
by_pool_there : (v : Inv) (k : ℕ) (vs : List Version) (w : Version) → list_all (is_copied v) vs ≡ true → version_of k vs ≡ Some w → are_by_pool w.copies ≡ true
by_pool_there v k [] w h f = absurd cc
by_pool_there v k (x ∷ vs) w h f =
    elim (eqb x.object k) as (λ b. cond b (Some x) (version_of k vs) ≡ Some w → are_by_pool w.copies ≡ true) [
      | true ↦ λ g.
          let same : x ≡ w = cc in
          ap (λ (y : Version). are_by_pool y.copies) (sym same) ∙ by_pool_of v x (first (is_copied v x) (list_all (is_copied v) vs) h)
      | false ↦ λ g. by_pool_there v k vs w (rest (is_copied v x) (list_all (is_copied v) vs) h) g
    ] f

one_movable : (j : Journal) (v : Inv) (i : MovedCopy) → versions_are_copied v ≡ true → moved_refused j v i ≡ [] → Movable (versions v) i
one_movable j v i k h = go (version_of i.object (versions v)) refl h where
  go : (o : Option Version) → version_of i.object (versions v) ≡ o → of_version j i.object (copy_refused j i.object i.from i.placed) o ≡ [] → Movable (versions v) i
  go None e g = absurd cc
  go (Some w) e g =
      let p : placed_by i.placed (copy_in i.from w) ≡ true = unless_holds (placed_by i.placed (copy_in i.from w)) (stale_copy (j.copy_changed i.object i.from) (copy_in i.from w)) g in
      let c : (x : CopyRow) × (copy_in i.from w ≡ Some x) = placed_there i.placed (copy_in i.from w) p in
      record { version = w; there = e; by_pool = by_pool_there v i.object (versions v) w k e; old = c.0; copied = c.1 }

each_movable : (j : Journal) (v : Inv) → versions_are_copied v ≡ true → (items : List MovedCopy) → flat_map (moved_refused j v) items ≡ [] → AllByRecursion (Movable (versions v)) items
each_movable j v k [] h = tt
each_movable j v k (i ∷ items) h = (
  one_movable j v i k (nothing_first (moved_refused j v i) (flat_map (moved_refused j v) items) h),
  each_movable j v k items (nothing_then (moved_refused j v i) (flat_map (moved_refused j v) items) h),
)

all_moves : (a f l s w u t v n : ℕ) → a + l ≡ f + s → w ≡ u → u ≡ t → t ≡ n + v → a + w + l ≡ f + v + (n + s)
all_moves a f l s w u t v n h g e i = omega (arith, h, g, e, i)

pub moves_counted : (j : Journal) (c : MovedCopies) (v : Inv) → are_distinct (versions v) ≡ true → versions_are_copied v ≡ true → move_refused j c.items v ++ scratch_refused c.scratch v ≡ []
    → count_items (effect (change.Move c) v) + sum_by (segments_left v) c.items ≡ count_items v + (length c.scratch + sum_by of_move c.items)
unfolding effect
moves_counted j c v d k h =
    let t : Inv = each make_scratch c.scratch v in
    let u : Inv = each put_moved c.items t in
    let s : Scratched (length c.scratch) v t = scratched c.scratch v (nothing_then (move_refused j c.items v) (scratch_refused c.scratch v) h) in
    let p : Stays t u = put_all_stays c.items t in
    let same : u.clients ≡ v.clients = p.clients ∙ s.clients in
    let moves : move_refused j c.items v ≡ [] = nothing_first (move_refused j c.items v) (scratch_refused c.scratch v) h in
    let once : name_once (map (λ i. i.object) c.items) ≡ true = unless_holds (name_once (map (λ i. i.object) c.items)) bad_value (nothing_first (unless (name_once (map (λ i. i.object) c.items)) bad_value) (flat_map (moved_refused j v) c.items) moves) in
    let named : flat_map (moved_refused j v) c.items ≡ [] = nothing_then (unless (name_once (map (λ i. i.object) c.items)) bad_value) (flat_map (moved_refused j v) c.items) moves in
    let there : AllByRecursion (Movable (versions u)) c.items = subst (λ cl. AllByRecursion (Movable (kept_of cl)) c.items) (sym same) (each_movable j v k c.items named) in
    let m : CopiesMoved c.items u (each move_copy c.items u) = copies_moved c.items u (ap (λ cl. are_distinct (kept_of cl)) same ∙ d) once there in
    let adds : in_rows (each move_copy c.items u).clients + sum_by (left_in (versions v)) c.items ≡ in_rows v.clients + sum_by of_move c.items =
    ap (λ cl. in_rows (each move_copy c.items u).clients + sum_by (left_in (kept_of cl)) c.items) (sym same) ∙ m.adds ∙ ap (λ cl. in_rows cl + sum_by of_move c.items) same in
    data_more v (effect (change.Move c) v) (sum_by (segments_left v) c.items) (length c.scratch + sum_by of_move c.items) (effect-data (change.Move c) v refl)
    (all_moves (in_rows (each move_copy c.items u).clients) (in_rows v.clients) (sum_by (left_in (versions v)) c.items) (sum_by of_move c.items)
    (length (each move_copy c.items u).stores.volumes) (length u.stores.volumes) (length t.stores.volumes) (length v.stores.volumes) (length c.scratch) adds m.volumes p.volumes s.volumes)
