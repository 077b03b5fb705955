-- What holds of each row of a table after one of them changed or came.
use Rattle.std.proofs.Common.{◌≡◌, ℕ, Bool, true, false, cond, not, ◌&&◌, List, [], ◌∷◌, ◌++◌, map, Some, None, refl, sym, ap, subst, ◌∙◌, arith}
use Rattle.std.specs.Prelude.{◌==◌}
use Rattle.std.specs.BTreeMap.{is_at}
use Rattle.std.specs.List.{list_all, AllByRecursion}
use Rattle.std.specs.Map.{keys_of}
use Rattle.std.specs.Ordering.{nat_cmp, is_eq, match_ordering}
use Rattle.std.specs.declared.cmp.Ordering.TheVariants.{Less, Equal, Greater}
use Rattle.std.proofs.lemmas.Bool.{and_parts, and_from, not-true, eqb-false, false≢true}
use Rattle.std.proofs.lemmas.Option.{same_Some}
use Rattle.inventory_rules.specs.inventory_rows.version_groups.Entries.{all_later}
use Rattle.inventory_rules.specs.inventory_rows.pool_tables.Rows.{row_at, with_row, set_row}
use Rattle.inventory_rules.proofs.of_inventory_rows.of_pool_tables.Counting.{at_is}

-- ---- a test of each element, and what holds of each

pub each_of_all : {A : Type 0} (p : A → Bool) (xs : List A) → list_all p xs ≡ true → AllByRecursion (λ x. p x ≡ true) xs
each_of_all p [] h = tt
each_of_all p (x ∷ xs) h =
    let parts = and_parts (p x) (list_all p xs) h in
    (parts.0, each_of_all p xs parts.1)

pub all_of_each : {A : Type 0} (p : A → Bool) (xs : List A) → AllByRecursion (λ x. p x ≡ true) xs → list_all p xs ≡ true
all_of_each p [] h = refl
all_of_each p (x ∷ xs) h = and_from (p x) (list_all p xs) h.0 (all_of_each p xs h.1)

pub each_so : {A : Type 0} (P Q : A → Type 0) → ((x : A) → P x → Q x) → (xs : List A) → AllByRecursion P xs → AllByRecursion Q xs
each_so P Q f [] h = tt
each_so P Q f (x ∷ xs) h = (f x h.0, each_so P Q f xs h.1)

pub all_so : {A : Type 0} (p q : A → Bool) → ((x : A) → p x ≡ true → q x ≡ true) → (xs : List A) → list_all p xs ≡ true → list_all q xs ≡ true
all_so p q f [] h = refl
all_so p q f (x ∷ xs) h =
    let parts = and_parts (p x) (list_all p xs) h in
    and_from (q x) (list_all q xs) (f x parts.0) (all_so p q f xs parts.1)

pub all_both : {A : Type 0} (p q r : A → Bool) → ((x : A) → p x ≡ true → q x ≡ true → r x ≡ true) → (xs : List A) → list_all p xs ≡ true → list_all q xs ≡ true → list_all r xs ≡ true
all_both p q r f [] h k = refl
all_both p q r f (x ∷ xs) h k =
    let hs = and_parts (p x) (list_all p xs) h in
    let ks = and_parts (q x) (list_all q xs) k in
    and_from (r x) (list_all r xs) (f x hs.0 ks.0) (all_both p q r f xs hs.1 ks.1)

pub all_same : {A : Type 0} (p q : A → Bool) → ((x : A) → p x ≡ q x) → (xs : List A) → list_all p xs ≡ list_all q xs
all_same p q f [] = refl
all_same p q f (x ∷ xs) = ap (λ b. b && list_all p xs) (f x) ∙ ap (λ b. q x && b) (all_same p q f xs)

pub all_later-same : {A : Type 0} (r s : A → A → Bool) → ((x y : A) → r x y ≡ s x y) → (xs : List A) → all_later r xs ≡ all_later s xs
all_later-same r s f [] = refl
all_later-same r s f (x ∷ xs) = ap (λ b. b && all_later r xs) (all_same (r x) (s x) (f x) xs) ∙ ap (λ b. list_all (s x) xs && b) (all_later-same r s f xs)

pub list_all-append : {A : Type 0} (p : A → Bool) (xs ys : List A) → list_all p xs ≡ true → list_all p ys ≡ true → list_all p (xs ++ ys) ≡ true
list_all-append p [] ys h k = k
list_all-append p (x ∷ xs) ys h k =
    let parts = and_parts (p x) (list_all p xs) h in
    and_from (p x) (list_all p (xs ++ ys)) parts.0 (list_all-append p xs ys parts.1 k)

pub list_all-parts : {A : Type 0} (p : A → Bool) (xs ys : List A) → list_all p (xs ++ ys) ≡ true → (list_all p xs ≡ true) × (list_all p ys ≡ true)
list_all-parts p [] ys h = (refl, h)
list_all-parts p (x ∷ xs) ys h =
    let parts = and_parts (p x) (list_all p (xs ++ ys)) h in
    let more = list_all-parts p xs ys parts.1 in
    (and_from (p x) (list_all p xs) parts.0 more.0, more.1)

-- ---- rows by number

pub at_itself : (k : ℕ) → is_at (nat_cmp k) k ≡ true
at_itself k = let e : nat_cmp k k ≡ Equal = grind arith in ap is_eq e

pub not_at : (k n : ℕ) → is_at (nat_cmp k) n ≡ false → n ≡ k → ⊥
not_at k n h e = false≢true (sym h ∙ ap (is_at (nat_cmp k)) e ∙ at_itself k)

others_so : {V : Type 0} (P Q : ℕ × V → Type 0) (k : ℕ) → ((e : ℕ × V) → (e.0 ≡ k → ⊥) → P e → Q e) → (n : ℕ) → n ≡ k → (rows : List (ℕ × V))
    → list_all (λ m. not (n == m)) (keys_of rows) ≡ true → AllByRecursion P rows → AllByRecursion Q rows
others_so P Q k step n is [] h all = tt
others_so P Q k step n is (e ∷ rows) h all =
    let parts = and_parts (not (n == e.0)) (list_all (λ m. not (n == m)) (keys_of rows)) h in
    (step e (λ same. eqb-false n e.0 (not-true (n == e.0) parts.0) (is ∙ sym same)) all.0, others_so P Q k step n is rows parts.1 all.1)

-- one row changes, and of each other one other things hold
pub each_but : {V : Type 0} (P Q : ℕ × V → Type 0) (k : ℕ) (old new : V) → ((e : ℕ × V) → (e.0 ≡ k → ⊥) → P e → Q e) → (P (k, old) → Q (k, new)) → (rows : List (ℕ × V))
    → row_at k rows ≡ Some old → all_later (λ m n. not (m == n)) (keys_of rows) ≡ true → AllByRecursion P rows → AllByRecursion Q (set_row k new rows)
each_but P Q k old new step change [] found apart all = absurd cc
each_but {V} P Q k old new step change (e ∷ rows) found apart all =
    let parts = and_parts (list_all (λ n. not (e.0 == n)) (keys_of rows)) (all_later (λ m n. not (m == n)) (keys_of rows)) apart in
    elim (is_at (nat_cmp k) e.0) as (λ b. is_at (nat_cmp k) e.0 ≡ b → cond b (Some e.1) (row_at k rows) ≡ Some old → AllByRecursion Q (cond b ((e.0, new) ∷ rows) (e ∷ set_row k new rows))) [
      | true ↦ λ yes h.
          let here : k ≡ e.0 = at_is k e.0 yes in
          let was : P (k, old) = subst (λ (n : ℕ). P (n, old)) (sym here) (subst (λ (x : V). P (e.0, x)) (same_Some e.1 old h) all.0) in
          (subst (λ (n : ℕ). Q (n, new)) here (change was), others_so P Q k step e.0 (sym here) rows parts.0 all.1)
      | false ↦ λ off h. (step e (not_at k e.0 off) all.0, each_but P Q k old new step change rows h parts.1 all.1)
    ] refl found

-- no row has this number
pub each_other : {V : Type 0} (P Q : ℕ × V → Type 0) (k : ℕ) → ((e : ℕ × V) → (e.0 ≡ k → ⊥) → P e → Q e) → (rows : List (ℕ × V)) → row_at k rows ≡ None → AllByRecursion P rows → AllByRecursion Q rows
each_other P Q k step [] absent all = tt
each_other {V} P Q k step (e ∷ rows) absent all =
    elim (is_at (nat_cmp k) e.0) as (λ b. is_at (nat_cmp k) e.0 ≡ b → cond b (Some e.1) (row_at k rows) ≡ None → AllByRecursion Q (e ∷ rows)) [
      | true ↦ λ yes h. absurd cc
      | false ↦ λ off h. (step e (not_at k e.0 off) all.0, each_other P Q k step rows h all.1)
    ] refl absent

-- the names, or what else doesn't change, of all rows
pub map-set_row : {V A : Type 0} (f : V → A) (k : ℕ) (old new : V) (rows : List (ℕ × V)) → row_at k rows ≡ Some old → f new ≡ f old → map (λ e. f e.1) (set_row k new rows) ≡ map (λ e. f e.1) rows
map-set_row f k old new [] found same = absurd cc
map-set_row {V} {A} f k old new (e ∷ rows) found same =
    elim (is_at (nat_cmp k) e.0) as (λ b. cond b (Some e.1) (row_at k rows) ≡ Some old → map (λ e. f e.1) (cond b ((e.0, new) ∷ rows) (e ∷ set_row k new rows)) ≡ map (λ e. f e.1) (e ∷ rows)) [
      | true ↦ λ h. ap (λ (a : A). a ∷ map (λ e. f e.1) rows) (same ∙ sym (ap f (same_Some e.1 old h)))
      | false ↦ λ h. ap (λ (l : List A). f e.1 ∷ l) (map-set_row f k old new rows h same)
    ] found

-- ---- a row comes

pub all-insert : {V A : Type 0} (f : ℕ × V → A) (p : A → Bool) (k : ℕ) (v : V) (rows : List (ℕ × V)) → row_at k rows ≡ None → p (f (k, v)) ≡ true → list_all p (map f rows) ≡ true → list_all p (map f (with_row k v rows)) ≡ true
all-insert f p k v [] absent new all = and_from (p (f (k, v))) true new refl
all-insert {V} f p k v (e ∷ rows) absent new all =
    let parts = and_parts (p (f e)) (list_all p (map f rows)) all in
    elim (nat_cmp k e.0) as (λ o. cond (is_eq o) (Some e.1) (row_at k rows) ≡ None → list_all p (map f (match_ordering o ((k, v) ∷ e ∷ rows) ((e.0, v) ∷ rows) (e ∷ with_row k v rows))) ≡ true) [
      | Less ↦ λ h. and_from (p (f (k, v))) (list_all p (map f (e ∷ rows))) new all
      | Equal ↦ λ h. absurd cc
      | Greater ↦ λ h. and_from (p (f e)) (list_all p (map f (with_row k v rows))) parts.0 (all-insert f p k v rows h new parts.1)
    ] absent

-- rows that are apart, and others behind them, stay so where one comes that is apart from each
pub apart-insert : {V A : Type 0} (f : ℕ × V → A) (r : A → A → Bool) → ((a b : A) → r a b ≡ r b a) → (k : ℕ) (v : V) (others : List A) (rows : List (ℕ × V)) → row_at k rows ≡ None
    → list_all (r (f (k, v))) (map f rows ++ others) ≡ true → all_later r (map f rows ++ others) ≡ true → all_later r (map f (with_row k v rows) ++ others) ≡ true
apart-insert f r flips k v others [] absent new all = and_from (list_all (r (f (k, v))) others) (all_later r others) new all
apart-insert {V} {A} f r flips k v others (e ∷ rows) absent new all =
    let parts = and_parts (list_all (r (f e)) (map f rows ++ others)) (all_later r (map f rows ++ others)) all in
    let fresh = and_parts (r (f (k, v)) (f e)) (list_all (r (f (k, v))) (map f rows ++ others)) new in
    let sides = list_all-parts (r (f e)) (map f rows) others parts.0 in
    elim (nat_cmp k e.0) as (λ o. cond (is_eq o) (Some e.1) (row_at k rows) ≡ None → all_later r (map f (match_ordering o ((k, v) ∷ e ∷ rows) ((e.0, v) ∷ rows) (e ∷ with_row k v rows)) ++ others) ≡ true) [
      | Less ↦ λ h. and_from (list_all (r (f (k, v))) (map f (e ∷ rows) ++ others)) (all_later r (map f (e ∷ rows) ++ others)) new all
      | Equal ↦ λ h. absurd cc
      | Greater ↦ λ h.
          and_from (list_all (r (f e)) (map f (with_row k v rows) ++ others)) (all_later r (map f (with_row k v rows) ++ others))
          (list_all-append (r (f e)) (map f (with_row k v rows)) others (all-insert f (r (f e)) k v rows h (flips (f e) (f (k, v)) ∙ fresh.0) sides.0) sides.1)
          (apart-insert f r flips k v others rows h fresh.1 parts.1)
    ] absent
