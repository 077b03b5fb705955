-- Walks from number to number, each step given by a function: when they come to a number.
use Rattle.std.proofs.Common.{◌≡◌, ◌⊎◌, inl, inr, ⊎_elim, ℕ, zero, suc, ◌+◌, ◌≤◌, Bool, true, false, cond, ◌||◌, List, [], ◌∷◌, length, Option, Some, None, is_some, refl, sym, ap, subst, ◌∙◌, arith}
use Rattle.std.specs.Prelude.{◌==◌}
use Rattle.std.specs.List.{AllByRecursion}
use Rattle.std.proofs.lemmas.Bool.{cases_eq, eq-eqb, eqb-false, false≢true, ne_eqb, or_from, or_parts, or_right}
use Rattle.inventory_rules.specs.inventory_rows.pool_tables.Rows.{row_at}
use Rattle.inventory_rules.proofs.of_inventory_rows.of_pool_tables.Counting.{each_there}
use Rattle.inventory_laws.proofs.Lists.{each_also}

-- the walk from here comes to the number within so many steps
abbrev pub meets : ℕ → (ℕ → Option ℕ) → ℕ → Option ℕ → Bool
meets k f zero o = false
meets k f (suc n) None = false
meets k f (suc n) (Some x) = (x == k) || meets k f n (f x)

-- the number that is reached, if one is, is one of these
abbrev pub On : (ℕ → Type 0) → Option ℕ → Type 0
On T None = Unit {0}
On T (Some x) = T x

or_also : (a b c : Bool) → (b ≡ true → c ≡ true) → (a || b) ≡ true → (a || c) ≡ true
or_also true b c up h = refl
or_also false b c up h = up h

-- a longer walk comes to all that a shorter one comes to
pub meets_up : (k : ℕ) (f : ℕ → Option ℕ) (n : ℕ) (o : Option ℕ) → meets k f n o ≡ true → meets k f (suc n) o ≡ true
meets_up k f zero o h = absurd (false≢true h)
meets_up k f (suc n) None h = absurd (false≢true h)
meets_up k f (suc n) (Some x) h = or_also (x == k) (meets k f n (f x)) (meets k f (suc n) (f x)) (meets_up k f n (f x)) h

-- so a shorter one comes to none that a longer one doesn't come to
pub meets_down : (k : ℕ) (f : ℕ → Option ℕ) (n : ℕ) (o : Option ℕ) → meets k f (suc n) o ≡ false → meets k f n o ≡ false
meets_down k f n o h =
    elim (meets k f n o) as (λ b. meets k f n o ≡ b → b ≡ false) [
      | true ↦ λ t. absurd (false≢true (sym h ∙ meets_up k f n o t))
      | false ↦ λ _. refl
    ] refl

-- two functions that agree on all that is reached
pub meets_agree : (k : ℕ) (f g : ℕ → Option ℕ) (T : ℕ → Type 0) → ((x : ℕ) → T x → (f x ≡ g x) × On T (f x)) → (n : ℕ) (o : Option ℕ) → On T o → meets k f n o ≡ meets k g n o
meets_agree k f g T step zero o on = refl
meets_agree k f g T step (suc n) None on = refl
meets_agree k f g T step (suc n) (Some x) on =
    let s = step x on in
    ap (λ b. (x == k) || b) (meets_agree k f g T step n (f x) s.1 ∙ ap (meets k g n) s.0)

-- a number that isn't one of those reached
pub meets_never : (k : ℕ) (f : ℕ → Option ℕ) (T : ℕ → Type 0) → ((x : ℕ) → T x → On T (f x)) → ((x : ℕ) → T x → (x == k) ≡ false) → (n : ℕ) (o : Option ℕ) → On T o → meets k f n o ≡ false
meets_never k f T step ne zero o on = refl
meets_never k f T step ne (suc n) None on = refl
meets_never k f T step ne (suc n) (Some x) on = or_from (x == k) (meets k f n (f x)) (ne x on) (meets_never k f T step ne n (f x) (step x on))

-- ---- as many steps as there are rows are enough

-- how many rows have a number that passes
abbrev hits : {V : Type 0} → (ℕ → Bool) → List (ℕ × V) → ℕ
hits p [] = 0
hits p (e ∷ rows) = cond (p e.0) 1 0 + hits p rows

-- the same rows pass
abbrev Same : {V : Type 0} → (ℕ → Bool) → (ℕ → Bool) → List (ℕ × V) → Type 0
Same p q rows = AllByRecursion (λ e. q e.0 ≡ p e.0) rows

one_more : (a b : Bool) (m n : ℕ) → (a ≡ true → b ≡ true) → m ≤ n → cond a 1 0 + m ≤ cond b 1 0 + n
one_more true true m n up h = omega (arith, h)
one_more true false m n up h = absurd (false≢true (up refl))
one_more false true m n up h = omega (arith, h)
one_more false false m n up h = omega (arith, h)

hits_most : {V : Type 0} (p q : ℕ → Bool) (rows : List (ℕ × V)) → ((x : ℕ) → p x ≡ true → q x ≡ true) → hits p rows ≤ hits q rows
hits_most p q [] up = omega arith
hits_most p q (e ∷ rows) up = one_more (p e.0) (q e.0) (hits p rows) (hits q rows) (up e.0) (hits_most p q rows up)

grown : (a b : Bool) (m n : ℕ) (S : Type 0) → (a ≡ true → b ≡ true) → m ≤ n → S ⊎ (m + 1 ≤ n) → ((b ≡ a) × S) ⊎ (cond a 1 0 + m + 1 ≤ cond b 1 0 + n)
grown true true m n S up h (inl s) = inl (refl, s)
grown true true m n S up h (inr t) = inr (omega (arith, t))
grown true false m n S up h t = absurd (false≢true (up refl))
grown false true m n S up h t = inr (omega (arith, h))
grown false false m n S up h (inl s) = inl (refl, s)
grown false false m n S up h (inr t) = inr (omega (arith, t))

-- where all pass that passed before, the same rows pass, or more do
grow : {V : Type 0} (p q : ℕ → Bool) (rows : List (ℕ × V)) → ((x : ℕ) → p x ≡ true → q x ≡ true) → Same p q rows ⊎ (hits p rows + 1 ≤ hits q rows)
grow p q [] up = inl tt
grow p q (e ∷ rows) up = grown (p e.0) (q e.0) (hits p rows) (hits q rows) (Same p q rows) (up e.0) (hits_most p q rows up) (grow p q rows up)

hits_few : {V : Type 0} (p : ℕ → Bool) (rows : List (ℕ × V)) → hits p rows ≤ length rows
hits_few p [] = omega arith
hits_few p (e ∷ rows) = go (p e.0) (hits p rows) (length rows) (hits_few p rows) where
  go : (a : Bool) (m n : ℕ) → m ≤ n → cond a 1 0 + m ≤ suc n
  go true m n h = omega (arith, h)
  go false m n h = omega (arith, h)

-- where as many pass as there are, all do
hits_all : {V : Type 0} (p : ℕ → Bool) (rows : List (ℕ × V)) → length rows ≤ hits p rows → AllByRecursion (λ e. p e.0 ≡ true) rows
hits_all p [] h = tt
hits_all {V} p (e ∷ rows) h =
    let few : hits p rows ≤ length rows = hits_few p rows in
    let t = go (p e.0) (hits p rows) (length rows) few h in
    (t.0, hits_all p rows t.1)
  where
    go : (a : Bool) (m n : ℕ) → m ≤ n → suc n ≤ cond a 1 0 + m → (a ≡ true) × (n ≤ m)
    go true m n few h = (refl, omega (arith, few, h))
    go false m n few h = absurd (omega (arith, few, h))

-- the walk from a number comes to this one
abbrev from : ℕ → (ℕ → Option ℕ) → ℕ → ℕ → Bool
from k f n x = meets k f n (Some x)

-- a number with a row
abbrev pub Found : {V : Type 0} → List (ℕ × V) → ℕ → Type 0
Found rows x = is_some (row_at x rows) ≡ true

meets_nowhere : (k : ℕ) (f : ℕ → Option ℕ) (n : ℕ) → meets k f n None ≡ false
meets_nowhere k f zero = refl
meets_nowhere k f (suc n) = refl

-- a longer walk from any of the numbers comes to no more
at_found : {V : Type 0} (p q : ℕ → Bool) (rows : List (ℕ × V)) (x : ℕ) → Same p q rows → Found rows x → q x ≡ p x
at_found {V} p q rows x same there =
    elim (row_at x rows) as (λ o. row_at x rows ≡ o → is_some o ≡ true → q x ≡ p x) [
      | None ↦ λ _ t. absurd (false≢true t)
      | Some v ↦ λ found _. each_there (λ e. q e.0 ≡ p e.0) x v rows found same
    ] refl there

longer_same : {V : Type 0} (k : ℕ) (f : ℕ → Option ℕ) (n : ℕ) (rows : List (ℕ × V)) → Same (from k f n) (from k f (suc n)) rows → (o : Option ℕ) → On (Found rows) o → meets k f (suc n) o ≡ meets k f n o
longer_same k f n rows same None on = sym (meets_nowhere k f n)
longer_same k f n rows same (Some x) on = at_found (from k f n) (from k f (suc n)) rows x same on

-- each row's next number has a row
abbrev pub Leads : {V : Type 0} → (ℕ → Option ℕ) → List (ℕ × V) → Type 0
Leads f rows = AllByRecursion (λ e. On (Found rows) (f e.0)) rows

-- once no more is reached, no more ever is
same_up : {V : Type 0} (k : ℕ) (f : ℕ → Option ℕ) (n : ℕ) (rows : List (ℕ × V)) → Leads f rows → Same (from k f n) (from k f (suc n)) rows → Same (from k f (suc n)) (from k f (suc (suc n))) rows
same_up {V} k f n rows leads same =
    each_also (λ (e : ℕ × V). On (Found rows) (f e.0)) (λ e. from k f (suc (suc n)) e.0 ≡ from k f (suc n) e.0) rows
    (λ e on. ap (λ b. (e.0 == k) || b) (longer_same k f n rows same (f e.0) on)) leads

levels : {V : Type 0} (k : ℕ) (f : ℕ → Option ℕ) (rows : List (ℕ × V)) → Leads f rows → (n : ℕ) → Same (from k f n) (from k f (suc n)) rows ⊎ (n ≤ hits (from k f n) rows)
levels k f rows leads zero = inr (omega arith)
levels k f rows leads (suc n) = next (levels k f rows leads n) (grow (from k f n) (from k f (suc n)) rows (λ x h. meets_up k f n (Some x) h)) where
  next : Same (from k f n) (from k f (suc n)) rows ⊎ (n ≤ hits (from k f n) rows) → Same (from k f n) (from k f (suc n)) rows ⊎ (hits (from k f n) rows + 1 ≤ hits (from k f (suc n)) rows)
      → Same (from k f (suc n)) (from k f (suc (suc n))) rows ⊎ (suc n ≤ hits (from k f (suc n)) rows)
  next (inl same) t = inl (same_up k f n rows leads same)
  next (inr some) (inl same) = inl (same_up k f n rows leads same)
  next (inr some) (inr more) = inr (omega (arith, some, more))

settled : {V : Type 0} (k : ℕ) (f : ℕ → Option ℕ) (rows : List (ℕ × V)) → Leads f rows → Same (from k f (length rows)) (from k f (suc (length rows))) rows
settled {V} k f rows leads = ⊎_elim (λ same. same) all (levels k f rows leads (length rows)) where
  all : length rows ≤ hits (from k f (length rows)) rows → Same (from k f (length rows)) (from k f (suc (length rows))) rows
  all h =
      each_also (λ (e : ℕ × V). from k f (length rows) e.0 ≡ true) (λ e. from k f (suc (length rows)) e.0 ≡ from k f (length rows) e.0) rows
      (λ e t. meets_up k f (length rows) (Some e.0) t ∙ sym t) (hits_all (from k f (length rows)) rows h)

-- one step more than there are rows comes to no more
pub one_step_more : {V : Type 0} (k : ℕ) (f : ℕ → Option ℕ) (rows : List (ℕ × V)) → Leads f rows → (o : Option ℕ) → On (Found rows) o → meets k f (suc (length rows)) o ≡ meets k f (length rows) o
one_step_more k f rows leads o on = longer_same k f (length rows) rows (settled k f rows leads) o on

-- ---- any number of steps

-- so many steps more
abbrev more : ℕ → ℕ → ℕ
more zero n = n
more (suc j) n = more j (suc n)

more_is : (j n : ℕ) → more j n ≡ j + n
more_is zero n = omega arith
more_is (suc j) n = (let t : j + suc n ≡ suc j + n = omega arith in more_is j (suc n) ∙ t)

meets_more : (k : ℕ) (f : ℕ → Option ℕ) (j n : ℕ) (o : Option ℕ) → meets k f n o ≡ true → meets k f (more j n) o ≡ true
meets_more k f zero n o h = h
meets_more k f (suc j) n o h = meets_more k f j (suc n) o (meets_up k f n o h)

none_more : {V : Type 0} (k : ℕ) (f : ℕ → Option ℕ) (rows : List (ℕ × V)) → Leads f rows → (j n : ℕ) → Same (from k f n) (from k f (suc n)) rows → (o : Option ℕ) → On (Found rows) o → meets k f n o ≡ false → meets k f (more j n) o ≡ false
none_more k f rows leads zero n same o on h = h
none_more k f rows leads (suc j) n same o on h = none_more k f rows leads j (suc n) (same_up k f n rows leads same) o on (longer_same k f n rows same o on ∙ h)

-- a number that isn't reached in as many steps as there are rows never is
pub never : {V : Type 0} (k : ℕ) (f : ℕ → Option ℕ) (rows : List (ℕ × V)) → Leads f rows → (o : Option ℕ) → On (Found rows) o → meets k f (length rows) o ≡ false → (n : ℕ) → meets k f n o ≡ false
never {V} k f rows leads o on h n =
    let swapped : length rows + n ≡ n + length rows = omega arith in
    let same : more (length rows) n ≡ more n (length rows) = more_is (length rows) n ∙ swapped ∙ sym (more_is n (length rows)) in
    let none : meets k f (more n (length rows)) o ≡ false = none_more k f rows leads n (length rows) (settled k f rows leads) o on h in
    elim (meets k f n o) as (λ b. meets k f n o ≡ b → b ≡ false) [
      | true ↦ λ t. absurd (false≢true (sym (ap (λ m. meets k f m o) same ∙ none) ∙ meets_more k f (length rows) n o t))
      | false ↦ λ _. refl
    ] refl

-- ---- one step is another

-- both functions agree but on one number
module _ (k : ℕ) (f g : ℕ → Option ℕ) (besides : (q : ℕ) → (q ≡ k → ⊥) → g q ≡ f q) where
  -- up to that number the walks are the same
  pub to_it : (n : ℕ) (o : Option ℕ) → meets k g n o ≡ meets k f n o
  to_it zero o = refl
  to_it (suc n) None = refl
  to_it (suc n) (Some x) =
      ⊎_elim
      (λ (e : x ≡ k). ap (λ b. b || meets k g n (g x)) (eq-eqb x k e) ∙ sym (ap (λ b. b || meets k f n (f x)) (eq-eqb x k e)))
      (λ (ne : x ≡ k → ⊥). ap (λ b. (x == k) || b) (ap (meets k g n) (besides x ne) ∙ to_it n (f x)))
      (cases_eq x k)

  -- no walk from here comes to it
  abbrev pub Apart : ℕ → Type 0
  Apart x = (n : ℕ) → meets k f n (Some x) ≡ false

  on_apart : (o : Option ℕ) → ((n : ℕ) → meets k f n o ≡ false) → On Apart o
  on_apart None h = tt
  on_apart (Some x) h = h

  apart_ne : (x : ℕ) → Apart x → x ≡ k → ⊥
  apart_ne x h = eqb-false x k (or_parts (x == k) (meets k f zero (f x)) (h (suc zero))).0

  apart_next : (x : ℕ) → Apart x → (f x ≡ g x) × On Apart (f x)
  apart_next x h = (sym (besides x (apart_ne x h)), on_apart (f x) (λ n. (or_parts (x == k) (meets k f n (f x)) (h (suc n))).1))

  -- from there both walks are the same
  apart_agree : (p n : ℕ) (o : Option ℕ) → On Apart o → meets p f n o ≡ meets p g n o
  apart_agree p n o on = meets_agree p f g Apart apart_next n o on

  -- and come to no number from which a walk comes to it
  apart_never : (p m : ℕ) → meets k f m (Some p) ≡ true → (n : ℕ) (o : Option ℕ) → On Apart o → meets p g n o ≡ false
  apart_never p m comes n o on =
      sym (apart_agree p n o on)
      ∙ meets_never p f Apart (λ x h. (apart_next x h).1) (λ x h. ne_eqb x p (λ same. false≢true (sym (subst (λ (q : ℕ). meets k f m (Some q) ≡ false) same (h m)) ∙ comes))) n o on

  -- where the new step leads to no number, what the new walk comes to the old one comes to
  back_to : (p : ℕ) → ((n : ℕ) → meets p g n (g k) ≡ false) → (n : ℕ) (o : Option ℕ) → meets p g n o ≡ true → meets p f n o ≡ true
  back_to p none zero o h = absurd (false≢true h)
  back_to p none (suc n) None h = absurd (false≢true h)
  back_to p none (suc n) (Some x) h =
      or_also (x == p) (meets p g n (g x)) (meets p f n (f x))
      (λ t.
      ⊎_elim
      (λ (e : x ≡ k). absurd (false≢true (sym (none n) ∙ ap (λ q. meets p g n (g q)) (sym e) ∙ t)))
      (λ (ne : x ≡ k → ⊥). back_to p none n (f x) (ap (meets p g n) (sym (besides x ne)) ∙ t))
      (cases_eq x k)) h

  -- where the new step leads to no walk that comes back, none comes back anywhere
  pub no_return : {V : Type 0} (rows : List (ℕ × V)) → Leads f rows → On (Found rows) (g k) → meets k f (length rows) (g k) ≡ false
      → (p : ℕ) → On (Found rows) (f p) → meets p f (length rows) (f p) ≡ false → meets p g (length rows) (f p) ≡ false
  no_return {V} rows leads on_new new p on h =
      elim (meets k f (length rows) (f p)) as (λ b. meets k f (length rows) (f p) ≡ b → meets p g (length rows) (f p) ≡ false) [
        | false ↦ λ t. sym (apart_agree p (length rows) (f p) (on_apart (f p) (never k f rows leads (f p) on t))) ∙ h
        | true ↦ λ t.
            let comes : meets k f (suc (length rows)) (Some p) ≡ true = or_right (p == k) (meets k f (length rows) (f p)) t in
            let none : (n : ℕ) → meets p g n (g k) ≡ false = λ n. apart_never p (suc (length rows)) comes n (g k) (on_apart (g k) (never k f rows leads (g k) on_new new)) in
            elim (meets p g (length rows) (f p)) as (λ b. meets p g (length rows) (f p) ≡ b → b ≡ false) [
              | true ↦ λ u. absurd (false≢true (sym h ∙ back_to p none (length rows) (f p) u))
              | false ↦ λ _. refl
            ] refl
      ] refl
