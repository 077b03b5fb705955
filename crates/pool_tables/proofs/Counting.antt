-- The totals of the pools, after a volume came, changed or went.
use Rattle.std.proofs.Common.{◌≡◌, ⊎_elim, ℕ, ◌+◌, ◌-◌, ◌*◌, ◌≤◌, true, false, cond, nat_eq, List, [], ◌∷◌, length, Option, Some, None, unwrap_or, refl, sym, ap, subst, ◌∙◌, arith}
use Rattle.std.proofs.lemmas.Bool.{cases_eq, eqb-true, eq-eqb}
use Rattle.std.proofs.lemmas.List.Sums.{sum_by-cons}
use Rattle.std.proofs.lemmas.Map.Entries.{sum_by-insert_entry, sum_by-set_value, sum_by-remove_entry}
use Rattle.std.proofs.lemmas.Map.Lookups.{exact_unsigned}
use Rattle.std.proofs.lemmas.Option.{same_Some}
use Rattle.std.specs.BTreeMap.{is_at}
use Rattle.std.specs.Cmp.{nat_cmp_total}
use Rattle.std.specs.List.{AllByRecursion}
use Rattle.std.specs.List.Sorted.{IsStrictlySortedBy}
use Rattle.std.specs.Map.{keys_of, values_of}
use Rattle.std.specs.Option.{option_map}
use Rattle.std.specs.Ordering.{is_eq, match_ordering, nat_cmp}
use Rattle.std.specs.declared.cmp.Ordering.{Ordering}
use Rattle.std.specs.declared.cmp.Ordering.TheVariants.{Less, Equal, Greater}
use Rattle.volume_rows.specs.declared.volume.Volume.{Volume}
use Rattle.pool_tables.specs.declared.totals.Totals.{Totals}
use Rattle.pool_tables.specs.Rows.{row_at, with_row, without_row, set_row, edit_row, edited}
use Rattle.pool_tables.specs.Sums.{used_blocks_on, blocks_of_volume, live_bytes_on, defined_one, scratch_one, part_of, total_of}
use Rattle.pool_tables.specs.Counted.{no_totals, totals_at, totals_by, totals_of_volume, totals_of, moved}
use Rattle.pool_tables.proofs.Tables.{lookup-set}

-- ---- rows by number

equal_is : (o : Ordering) → is_eq o ≡ true → o ≡ Equal
equal_is Less h = absurd (cc)
equal_is Equal h = refl
equal_is Greater h = absurd (cc)

pub at_is : (k q : ℕ) → is_at (nat_cmp k) q ≡ true → k ≡ q
at_is k q h = exact_unsigned k q (equal_is (nat_cmp k q) h)

pub apart_at : (k q : ℕ) → (k ≡ q → ⊥) → is_at (nat_cmp k) q ≡ false
apart_at k q h =
    elim (is_at (nat_cmp k) q) as (λ b. is_at (nat_cmp k) q ≡ b → b ≡ false) [ true ↦ λ yes. absurd (h (at_is k q yes)) | false ↦ λ _. refl ] refl

pub row_at-set_other : {V : Type 0} (k q : ℕ) (w : V) (rows : List (ℕ × V)) → (k ≡ q → ⊥) → row_at q (set_row k w rows) ≡ row_at q rows
row_at-set_other k q w [] ne = refl
row_at-set_other {V} k q w (e ∷ rows) ne =
    elim (is_at (nat_cmp k) e.0) as (λ b. is_at (nat_cmp k) e.0 ≡ b → row_at q (cond b ((e.0, w) ∷ rows) (e ∷ set_row k w rows)) ≡ row_at q (e ∷ rows)) [
      | true ↦ λ yes.
          let off : is_at (nat_cmp q) e.0 ≡ false = apart_at q e.0 (λ same. ne (at_is k e.0 yes ∙ sym same)) in
          ap (λ b. cond b (Some w) (row_at q rows)) off ∙ sym (ap (λ b. cond b (Some e.1) (row_at q rows)) off)
      | false ↦ λ _. ap (λ r. cond (is_at (nat_cmp q) e.0) (Some e.1) r) (row_at-set_other k q w rows ne)
    ] refl

-- ---- what holds of every row

pub each_insert : {V : Type 0} (P : ℕ × V → Type 0) (k : ℕ) (v : V) (rows : List (ℕ × V)) → row_at k rows ≡ None → P (k, v) → AllByRecursion P rows → AllByRecursion P (with_row k v rows)
each_insert P k v [] absent new all = (new, tt)
each_insert {V} P k v (e ∷ rows) absent new all =
    elim (nat_cmp k e.0) as (λ o. cond (is_eq o) (Some e.1) (row_at k rows) ≡ None → AllByRecursion P (match_ordering o ((k, v) ∷ e ∷ rows) ((e.0, v) ∷ rows) (e ∷ with_row k v rows))) [
      | Less ↦ λ _. (new, all)
      | Equal ↦ λ h. absurd (cc)
      | Greater ↦ λ h. (all.0, each_insert P k v rows h new all.1)
    ] absent

pub each_set : {V : Type 0} (P : ℕ × V → Type 0) (k : ℕ) (w : V) (rows : List (ℕ × V)) → P (k, w) → AllByRecursion P rows → AllByRecursion P (set_row k w rows)
each_set P k w [] new all = tt
each_set {V} P k w (e ∷ rows) new all =
    elim (is_at (nat_cmp k) e.0) as (λ b. is_at (nat_cmp k) e.0 ≡ b → AllByRecursion P (cond b ((e.0, w) ∷ rows) (e ∷ set_row k w rows))) [
      | true ↦ λ yes. (subst (λ (n : ℕ). P (n, w)) (at_is k e.0 yes) new, all.1)
      | false ↦ λ _. (all.0, each_set P k w rows new all.1)
    ] refl

pub each_remove : {V : Type 0} (P : ℕ × V → Type 0) (k : ℕ) (rows : List (ℕ × V)) → AllByRecursion P rows → AllByRecursion P (without_row k rows)
each_remove P k [] all = tt
each_remove {V} P k (e ∷ rows) all =
    elim (is_at (nat_cmp k) e.0) as (λ b. AllByRecursion P (cond b rows (e ∷ without_row k rows))) [ true ↦ all.1 | false ↦ (all.0, each_remove P k rows all.1) ]

pub each_there : {V : Type 0} (P : ℕ × V → Type 0) (k : ℕ) (v : V) (rows : List (ℕ × V)) → row_at k rows ≡ Some v → AllByRecursion P rows → P (k, v)
each_there P k v [] there all = absurd (cc)
each_there {V} P k v (e ∷ rows) there all =
    elim (is_at (nat_cmp k) e.0) as (λ b. is_at (nat_cmp k) e.0 ≡ b → cond b (Some e.1) (row_at k rows) ≡ Some v → P (k, v)) [
      | true ↦ λ yes h. subst (λ (n : ℕ). P (n, v)) (sym (at_is k e.0 yes)) (subst (λ (x : V). P (e.0, x)) (same_Some e.1 v h) all.0)
      | false ↦ λ _ h. each_there P k v rows h all.1
    ] refl there

-- ---- sums over a pool

part_here : (m : Volume → ℕ) (v : Volume) → part_of m v.pool v ≡ m v
part_here m v = ap (λ b. cond b (m v) 0) (eq-eqb v.pool v.pool refl)

part_here_as : (m : Volume → ℕ) (pool : ℕ) (v : Volume) → v.pool ≡ pool → part_of m pool v ≡ m v
part_here_as m pool v e = ap (λ b. cond b (m v) 0) (eq-eqb v.pool pool e)

not_equal : (a b : ℕ) → (a ≡ b → ⊥) → nat_eq a b ≡ false
not_equal a b h = elim (nat_eq a b) as (λ t. nat_eq a b ≡ t → t ≡ false) [ true ↦ λ yes. absurd (h (eqb-true a b yes)) | false ↦ λ _. refl ] refl

part_other : (m : Volume → ℕ) (pool : ℕ) (v : Volume) → (v.pool ≡ pool → ⊥) → part_of m pool v ≡ 0
part_other m pool v h = ap (λ b. cond b (m v) 0) (not_equal v.pool pool h)

sum_set : (m : Volume → ℕ) (pool k : ℕ) (v w : Volume) (rows : List (ℕ × Volume)) → row_at k rows ≡ Some v → total_of m pool (set_row k w rows) + part_of m pool v ≡ total_of m pool rows + part_of m pool w
sum_set m pool k v w rows there = sum_by-set_value (part_of m pool) (is_at (nat_cmp k)) rows v w there

sum_remove : (m : Volume → ℕ) (pool k : ℕ) (v : Volume) (rows : List (ℕ × Volume)) → row_at k rows ≡ Some v → total_of m pool (without_row k rows) + part_of m pool v ≡ total_of m pool rows
sum_remove m pool k v rows there =
    ap (λ o. total_of m pool (without_row k rows) + unwrap_or (option_map (part_of m pool) o) 0) (sym there) ∙ sum_by-remove_entry (part_of m pool) (is_at (nat_cmp k)) rows

sum_insert : (m : Volume → ℕ) (pool k : ℕ) (v : Volume) (rows : List (ℕ × Volume)) → IsStrictlySortedBy nat_cmp (keys_of rows) → row_at k rows ≡ None → total_of m pool (with_row k v rows) ≡ total_of m pool rows + part_of m pool v
sum_insert m pool k v rows sorted absent =
    let whole : total_of m pool (with_row k v rows) + unwrap_or (option_map (part_of m pool) (row_at k rows)) 0 ≡ total_of m pool rows + part_of m pool v = sum_by-insert_entry (part_of m pool) nat_cmp_total rows k v sorted in
    let none : unwrap_or (option_map (part_of m pool) (row_at k rows)) 0 ≡ 0 = ap (λ o. unwrap_or (option_map (part_of m pool) o) 0) absent in
    omega arith

-- a volume of the pool is at most the pool's total
pub part_within : (m : Volume → ℕ) (k : ℕ) (v : Volume) (rows : List (ℕ × Volume)) → row_at k rows ≡ Some v → m v ≤ total_of m v.pool rows
part_within m k v rows there =
    let whole : total_of m v.pool (without_row k rows) + part_of m v.pool v ≡ total_of m v.pool rows = sum_remove m v.pool k v rows there in
    let part : part_of m v.pool v ≡ m v = part_here m v in
    omega arith

set_here : (m : Volume → ℕ) (k : ℕ) (v w : Volume) (rows : List (ℕ × Volume)) → row_at k rows ≡ Some v → w.pool ≡ v.pool → total_of m v.pool rows - m v + m w ≡ total_of m v.pool (set_row k w rows)
set_here m k v w rows there same =
    let whole : total_of m v.pool (set_row k w rows) + part_of m v.pool v ≡ total_of m v.pool rows + part_of m v.pool w = sum_set m v.pool k v w rows there in
    let before : part_of m v.pool v ≡ m v = part_here m v in
    let after : part_of m v.pool w ≡ m w = part_here_as m v.pool w same in
    let most : m v ≤ total_of m v.pool rows = part_within m k v rows there in
    omega arith

set_other : (m : Volume → ℕ) (pool k : ℕ) (v w : Volume) (rows : List (ℕ × Volume)) → row_at k rows ≡ Some v → w.pool ≡ v.pool → (v.pool ≡ pool → ⊥) → total_of m pool rows ≡ total_of m pool (set_row k w rows)
set_other m pool k v w rows there same ne =
    let whole : total_of m pool (set_row k w rows) + part_of m pool v ≡ total_of m pool rows + part_of m pool w = sum_set m pool k v w rows there in
    let before : part_of m pool v ≡ 0 = part_other m pool v ne in
    let after : part_of m pool w ≡ 0 = part_other m pool w (λ e. ne (sym same ∙ e)) in
    omega arith

pub set_same : (m : Volume → ℕ) (pool k : ℕ) (v w : Volume) (rows : List (ℕ × Volume)) → row_at k rows ≡ Some v → w.pool ≡ v.pool → m w ≡ m v → total_of m pool rows ≡ total_of m pool (set_row k w rows)
set_same m pool k v w rows there same value =
    let whole : total_of m pool (set_row k w rows) + part_of m pool v ≡ total_of m pool rows + part_of m pool w = sum_set m pool k v w rows there in
    let part : part_of m pool w ≡ part_of m pool v = ap (λ n. cond (nat_eq n pool) (m w) 0) same ∙ ap (λ n. cond (nat_eq v.pool pool) n 0) value in
    omega arith

insert_here : (m : Volume → ℕ) (k : ℕ) (v : Volume) (rows : List (ℕ × Volume)) → IsStrictlySortedBy nat_cmp (keys_of rows) → row_at k rows ≡ None → total_of m v.pool rows - 0 + m v ≡ total_of m v.pool (with_row k v rows)
insert_here m k v rows sorted absent =
    let whole : total_of m v.pool (with_row k v rows) ≡ total_of m v.pool rows + part_of m v.pool v = sum_insert m v.pool k v rows sorted absent in
    let part : part_of m v.pool v ≡ m v = part_here m v in
    omega arith

insert_other : (m : Volume → ℕ) (pool k : ℕ) (v : Volume) (rows : List (ℕ × Volume)) → IsStrictlySortedBy nat_cmp (keys_of rows) → row_at k rows ≡ None → (v.pool ≡ pool → ⊥) → total_of m pool rows ≡ total_of m pool (with_row k v rows)
insert_other m pool k v rows sorted absent ne =
    let whole : total_of m pool (with_row k v rows) ≡ total_of m pool rows + part_of m pool v = sum_insert m pool k v rows sorted absent in
    let part : part_of m pool v ≡ 0 = part_other m pool v ne in
    omega arith

remove_here : (m : Volume → ℕ) (k : ℕ) (v : Volume) (rows : List (ℕ × Volume)) → row_at k rows ≡ Some v → total_of m v.pool rows - m v + 0 ≡ total_of m v.pool (without_row k rows)
remove_here m k v rows there =
    let whole : total_of m v.pool (without_row k rows) + part_of m v.pool v ≡ total_of m v.pool rows = sum_remove m v.pool k v rows there in
    let part : part_of m v.pool v ≡ m v = part_here m v in
    omega arith

remove_other : (m : Volume → ℕ) (pool k : ℕ) (v : Volume) (rows : List (ℕ × Volume)) → row_at k rows ≡ Some v → (v.pool ≡ pool → ⊥) → total_of m pool rows ≡ total_of m pool (without_row k rows)
remove_other m pool k v rows there ne =
    let whole : total_of m pool (without_row k rows) + part_of m pool v ≡ total_of m pool rows = sum_remove m pool k v rows there in
    let part : part_of m pool v ≡ 0 = part_other m pool v ne in
    omega arith

-- ---- all five

abbrev fields : ℕ → ℕ → ℕ → ℕ → ℕ → Totals
fields a b c d e = record {
  used_blocks = a;
  blocks = b;
  live_bytes = c;
  defined = d;
  scratch = e;
}

pub by_same : (f g : (Volume → ℕ) → ℕ) → ((m : Volume → ℕ) → f m ≡ g m) → totals_by f ≡ totals_by g
by_same f g h =
    ap (λ n. fields n (f blocks_of_volume) (f live_bytes_on) (f defined_one) (f scratch_one)) (h used_blocks_on)
    ∙ ap (λ n. fields (g used_blocks_on) n (f live_bytes_on) (f defined_one) (f scratch_one)) (h blocks_of_volume)
    ∙ ap (λ n. fields (g used_blocks_on) (g blocks_of_volume) n (f defined_one) (f scratch_one)) (h live_bytes_on)
    ∙ ap (λ n. fields (g used_blocks_on) (g blocks_of_volume) (g live_bytes_on) n (f scratch_one)) (h defined_one)
    ∙ ap (λ n. fields (g used_blocks_on) (g blocks_of_volume) (g live_bytes_on) (g defined_one) n) (h scratch_one)

-- the totals that are kept are those of the volumes
abbrev pub AreTotals : List (ℕ × Totals) → List (ℕ × Volume) → Type 0
AreTotals totals rows = (pool : ℕ) → totals_at pool totals ≡ totals_of pool rows

-- one pool's totals change, and so do the sums over its volumes
moved_totals : (totals : List (ℕ × Totals)) (rows new : List (ℕ × Volume)) (pool : ℕ) (less more : (Volume → ℕ) → ℕ) (t : Totals) → row_at pool totals ≡ Some t → AreTotals totals rows
    → ((m : Volume → ℕ) → total_of m pool rows - less m + more m ≡ total_of m pool new) → ((m : Volume → ℕ) (q : ℕ) → (pool ≡ q → ⊥) → total_of m q rows ≡ total_of m q new)
    → AreTotals (edit_row pool (moved (totals_by less) (totals_by more)) totals) new
moved_totals totals rows new pool less more t there h here others q =
    ⊎_elim
    (λ (e : pool ≡ q). subst (λ (n : ℕ). totals_at n (edit_row pool (moved (totals_by less) (totals_by more)) totals) ≡ totals_of n new) e at_pool)
    (λ (ne : pool ≡ q → ⊥).
    ap (λ (o : Option Totals). totals_at q (edited pool (moved (totals_by less) (totals_by more)) totals o)) there
    ∙ ap (λ (o : Option Totals). unwrap_or o no_totals) (row_at-set_other pool q (moved (totals_by less) (totals_by more) t) totals ne)
    ∙ h q ∙ by_same (λ m. total_of m q rows) (λ m. total_of m q new) (λ m. others m q ne))
    (cases_eq pool q) where
      found : t ≡ totals_of pool rows
      found = sym (ap (λ (o : Option Totals). unwrap_or o no_totals) there) ∙ h pool

      at_pool : totals_at pool (edit_row pool (moved (totals_by less) (totals_by more)) totals) ≡ totals_of pool new
      at_pool =
          ap (λ (o : Option Totals). totals_at pool (edited pool (moved (totals_by less) (totals_by more)) totals o)) there
          ∙ ap (λ (o : Option Totals). unwrap_or o no_totals) (lookup-set (is_at (nat_cmp pool)) t (moved (totals_by less) (totals_by more) t) totals there)
          ∙ ap (moved (totals_by less) (totals_by more)) found
          ∙ by_same (λ m. total_of m pool rows - less m + more m) (λ m. total_of m pool new) here

-- a pool with a volume has totals that are kept
pub totals_there : (totals : List (ℕ × Totals)) (rows : List (ℕ × Volume)) (k : ℕ) (v : Volume) → row_at k rows ≡ Some v → AreTotals totals rows → (t : Totals) × (row_at v.pool totals ≡ Some t)
totals_there totals rows k v there h =
    elim (row_at v.pool totals) as (λ o. row_at v.pool totals ≡ o → (t : Totals) × (o ≡ Some t)) [
      | None ↦ λ none.
          let zero : no_totals ≡ totals_of v.pool rows = sym (ap (λ (o : Option Totals). unwrap_or o no_totals) none) ∙ h v.pool in
          let defined : 0 ≡ total_of defined_one v.pool rows = ap (λ (t : Totals). t.defined) zero in
          let scratch : 0 ≡ total_of scratch_one v.pool rows = ap (λ (t : Totals). t.scratch) zero in
          let first : defined_one v ≤ total_of defined_one v.pool rows = part_within defined_one k v rows there in
          let second : scratch_one v ≤ total_of scratch_one v.pool rows = part_within scratch_one k v rows there in
          let one : defined_one v + scratch_one v ≡ 1 = elim v.scratch as (λ b. cond {A = ℕ} b 0 1 + cond {A = ℕ} b 1 0 ≡ 1) [ true ↦ refl | false ↦ refl ] in
          absurd (omega arith)
      | Some t ↦ λ _. (t, refl)
    ] refl

-- a volume changed, and stayed in its pool
pub totals_set : (totals : List (ℕ × Totals)) (rows : List (ℕ × Volume)) (k : ℕ) (v w : Volume) → row_at k rows ≡ Some v → w.pool ≡ v.pool → AreTotals totals rows
    → AreTotals (edit_row v.pool (moved (totals_of_volume v) (totals_of_volume w)) totals) (set_row k w rows)
totals_set totals rows k v w there same h =
    let kept = totals_there totals rows k v there h in
    moved_totals totals rows (set_row k w rows) v.pool (λ m. m v) (λ m. m w) kept.0 kept.1 h (λ m. set_here m k v w rows there same) (λ m q ne. set_other m q k v w rows there same ne)

-- a volume changed, and nothing that is counted
pub totals_same : (totals : List (ℕ × Totals)) (rows : List (ℕ × Volume)) (k : ℕ) (v w : Volume) → row_at k rows ≡ Some v → w.pool ≡ v.pool → totals_of_volume w ≡ totals_of_volume v → AreTotals totals rows → AreTotals totals (set_row k w rows)
totals_same totals rows k v w there same value h q =
    h q
    ∙ ap (λ n. fields n (total_of blocks_of_volume q rows) (total_of live_bytes_on q rows) (total_of defined_one q rows) (total_of scratch_one q rows)) (set_same used_blocks_on q k v w rows there same (ap (λ (t : Totals). t.used_blocks) value))
    ∙ ap (λ n. fields (total_of used_blocks_on q (set_row k w rows)) n (total_of live_bytes_on q rows) (total_of defined_one q rows) (total_of scratch_one q rows)) (set_same blocks_of_volume q k v w rows there same (ap (λ (t : Totals). t.blocks) value))
    ∙ ap (λ n. fields (total_of used_blocks_on q (set_row k w rows)) (total_of blocks_of_volume q (set_row k w rows)) n (total_of defined_one q rows) (total_of scratch_one q rows)) (set_same live_bytes_on q k v w rows there same (ap (λ (t : Totals). t.live_bytes) value))
    ∙ ap (λ n. fields (total_of used_blocks_on q (set_row k w rows)) (total_of blocks_of_volume q (set_row k w rows)) (total_of live_bytes_on q (set_row k w rows)) n (total_of scratch_one q rows)) (set_same defined_one q k v w rows there same (ap (λ (t : Totals). t.defined) value))
    ∙ ap (λ n. fields (total_of used_blocks_on q (set_row k w rows)) (total_of blocks_of_volume q (set_row k w rows)) (total_of live_bytes_on q (set_row k w rows)) (total_of defined_one q (set_row k w rows)) n) (set_same scratch_one q k v w rows there same (ap (λ (t : Totals). t.scratch) value))

-- a volume came
pub totals_insert : (totals : List (ℕ × Totals)) (rows : List (ℕ × Volume)) (k : ℕ) (v : Volume) (t : Totals) → IsStrictlySortedBy nat_cmp (keys_of rows) → row_at k rows ≡ None → row_at v.pool totals ≡ Some t → AreTotals totals rows
    → AreTotals (edit_row v.pool (moved no_totals (totals_of_volume v)) totals) (with_row k v rows)
totals_insert totals rows k v t sorted absent room h =
    moved_totals totals rows (with_row k v rows) v.pool (λ m. 0) (λ m. m v) t room h (λ m. insert_here m k v rows sorted absent) (λ m q ne. insert_other m q k v rows sorted absent ne)

-- a volume went
pub totals_remove : (totals : List (ℕ × Totals)) (rows : List (ℕ × Volume)) (k : ℕ) (v : Volume) → row_at k rows ≡ Some v → AreTotals totals rows
    → AreTotals (edit_row v.pool (moved (totals_of_volume v) no_totals) totals) (without_row k rows)
totals_remove totals rows k v there h =
    let kept = totals_there totals rows k v there h in
    moved_totals totals rows (without_row k rows) v.pool (λ m. m v) (λ m. 0) kept.0 kept.1 h (λ m. remove_here m k v rows there) (λ m q ne. remove_other m q k v rows there ne)

-- ---- bounds

-- each volume has at most so much, and so all of them at most so much for each
pub total_within : (m : Volume → ℕ) (pool most : ℕ) (rows : List (ℕ × Volume)) → AllByRecursion (λ (e : ℕ × Volume). m e.1 ≤ most) rows → total_of m pool rows ≤ most * length rows
total_within m pool most [] all = omega arith
total_within m pool most (e ∷ rows) all =
    let rest : total_of m pool rows ≤ most * length rows = total_within m pool most rows all.1 in
    let whole : total_of m pool (e ∷ rows) ≡ part_of m pool e.1 + total_of m pool rows = sum_by-cons (part_of m pool) e.1 (values_of rows) in
    let part : part_of m pool e.1 ≤ most = elim (nat_eq e.1.pool pool) as (λ b. cond b (m e.1) 0 ≤ most) [ true ↦ all.0 | false ↦ omega arith ] in
    omega arith

ones : (m : Volume → ℕ) → ((v : Volume) → m v ≤ 1) → (rows : List (ℕ × Volume)) → AllByRecursion (λ (e : ℕ × Volume). m e.1 ≤ 1) rows
ones m f [] = tt
ones m f (e ∷ rows) = (f e.1, ones m f rows)

-- what is counted once at most for each volume
pub count_within : (m : Volume → ℕ) (pool : ℕ) (rows : List (ℕ × Volume)) → ((v : Volume) → m v ≤ 1) → total_of m pool rows ≤ length rows
count_within m pool rows f =
    let sum : total_of m pool rows ≤ 1 * length rows = total_within m pool 1 rows (ones m f rows) in omega arith

pub defined_once : (v : Volume) → defined_one v ≤ 1
defined_once v = elim v.scratch as (λ b. cond {A = ℕ} b 0 1 ≤ 1) [ true ↦ omega arith | false ↦ omega arith ]

pub scratch_once : (v : Volume) → scratch_one v ≤ 1
scratch_once v = elim v.scratch as (λ b. cond {A = ℕ} b 1 0 ≤ 1) [ true ↦ omega arith | false ↦ omega arith ]
