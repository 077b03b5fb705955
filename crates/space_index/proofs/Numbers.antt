-- Lists by number in ascending order: what they come to depends on what stands under each number alone.
use Rattle.std.proofs.Common.{◌≡◌, ℕ, ◌+◌, ◌<◌, ◌≤◌, Bool, true, cond, List, [], ◌∷◌, ◌++◌, Option, Some, None, zero, suc, refl, sym, ap, ◌∙◌, arith, inl, inr}
use Rattle.std.specs.Prelude.{◌==◌, if◌then◌else◌}
use Rattle.std.specs.List.{AllByRecursion, flat_map, sum_by}
use Rattle.std.specs.List.Sorted.{IsStrictlySortedBy}
use Rattle.std.specs.Map.{keys_of}
use Rattle.std.specs.Ordering.{nat_cmp}
use Rattle.std.specs.BTreeMap.{is_at}
use Rattle.std.specs.declared.cmp.Ordering.TheVariants.{Less}
use Rattle.std.proofs.lemmas.Bool.{cases_eq, eq-eqb, ne_eqb}
use Rattle.std.proofs.lemmas.List.Sums.{sum_by-cons}
use Rattle.std.proofs.lemmas.List.{append-nil}
use Rattle.std.proofs.lemmas.Map.Keys.{sorted_head, sorted_tail}
use Rattle.pool_tables.specs.Rows.{row_at}
use Rattle.pool_tables.proofs.Counting.{apart_at}
use Rattle.space_index.specs.Listed.{given_at}

-- the numbers ascend, from this one on
unfoldable pub Ascends : {V : Type 0} → ℕ → List (ℕ × V) → Type 0
Ascends low [] = Unit {0}
Ascends low (e ∷ rows) = (low ≤ e.0) × Ascends (e.0 + 1) rows

from_zero : (keys : List ℕ) → AllByRecursion (λ k. 0 ≤ k) keys
from_zero [] = tt
from_zero (k ∷ keys) = (omega arith, from_zero keys)

module _ {V : Type 0} where
  ascends_from : (low : ℕ) (rows : List (ℕ × V)) → AllByRecursion (λ k. low ≤ k) (keys_of rows) → IsStrictlySortedBy nat_cmp (keys_of rows) → Ascends low rows
  unfolding Ascends
  ascends_from low [] all sorted = tt
  ascends_from low (e ∷ rows) all sorted =
      (all.0, ascends_from (e.0 + 1) rows (above e.0 (keys_of rows) (sorted_head nat_cmp e.0 (keys_of rows) sorted)) (sorted_tail nat_cmp e.0 (keys_of rows) sorted)) where
        less : (a b : ℕ) → nat_cmp a b ≡ Less → a + 1 ≤ b
        less a b h = grind arith

        above : (a : ℕ) (keys : List ℕ) → AllByRecursion (λ y. nat_cmp a y ≡ Less) keys → AllByRecursion (λ k. a + 1 ≤ k) keys
        above a [] all = tt
        above a (k ∷ keys) all = (less a k all.0, above a keys all.1)

  pub ascends_sorted : (rows : List (ℕ × V)) → IsStrictlySortedBy nat_cmp (keys_of rows) → Ascends 0 rows
  ascends_sorted rows sorted = ascends_from 0 rows (from_zero (keys_of rows)) sorted

  all_above : (a low : ℕ) (rows : List (ℕ × V)) → a < low → Ascends low rows → AllByRecursion (λ y. nat_cmp a y ≡ Less) (keys_of rows)
  unfolding Ascends
  all_above a low [] lt is = tt
  all_above a low (e ∷ rows) lt is = (less a e.0 (omega (arith, lt, is.0)), all_above a (e.0 + 1) rows (omega (arith, lt, is.0)) is.1) where
    less : (a b : ℕ) → a < b → nat_cmp a b ≡ Less
    less a b h = grind arith

  pub sorted_ascends : (low : ℕ) (rows : List (ℕ × V)) → Ascends low rows → IsStrictlySortedBy nat_cmp (keys_of rows)
  unfolding Ascends IsStrictlySortedBy
  sorted_ascends low [] is = tt
  sorted_ascends low (e ∷ rows) is = (all_above e.0 (e.0 + 1) rows (omega arith) is.1, sorted_ascends (e.0 + 1) rows is.1)

  pub ascends_lower : (low high : ℕ) (rows : List (ℕ × V)) → low ≤ high → Ascends high rows → Ascends low rows
  unfolding Ascends
  ascends_lower low high [] le is = tt
  ascends_lower low high (e ∷ rows) le is = (omega (arith, le, is.0), is.1)

  -- nothing stands under a lower number
  pub none_below : (low q : ℕ) (rows : List (ℕ × V)) → Ascends low rows → q < low → row_at q rows ≡ None
  unfolding Ascends
  none_below low q [] is lt = refl
  none_below low q (e ∷ rows) is lt =
      ap (λ (b : Bool). cond b (Some e.1) (row_at q rows)) (apart_at q e.0 (λ same. omega (arith, same, is.0, lt))) ∙ none_below (e.0 + 1) q rows is.1 (omega (arith, lt, is.0))

  pub row_first : (e : ℕ × V) (rows : List (ℕ × V)) → row_at e.0 (e ∷ rows) ≡ Some e.1
  row_first e rows = ap (λ (b : Bool). cond b (Some e.1) (row_at e.0 rows)) (itself e.0) where
    itself : (n : ℕ) → is_at (nat_cmp n) n ≡ true
    itself n = grind arith

  pub row_later : (e : ℕ × V) (rows : List (ℕ × V)) (q : ℕ) → (q ≡ e.0 → ⊥) → row_at q (e ∷ rows) ≡ row_at q rows
  row_later e rows q other = ap (λ (b : Bool). cond b (Some e.1) (row_at q rows)) (apart_at q e.0 other)

  pub ascends_rest : (low : ℕ) (e : ℕ × V) (rows : List (ℕ × V)) → Ascends low (e ∷ rows) → Ascends (e.0 + 1) rows
  unfolding Ascends
  ascends_rest low e rows is = is.1

  -- no number reaches this
  pub bound : List (ℕ × V) → ℕ
  bound [] = 0
  bound (e ∷ rows) = e.0 + 1 + bound rows

  unfoldable pub AreBelow : ℕ → List (ℕ × V) → Type 0
  AreBelow high rows = AllByRecursion (λ e. e.0 < high) rows

  pub below_higher : (high higher : ℕ) (rows : List (ℕ × V)) → high ≤ higher → AreBelow high rows → AreBelow higher rows
  unfolding AreBelow
  below_higher high higher [] le is = tt
  below_higher high higher (e ∷ rows) le is = (omega (arith, is.0, le), below_higher high higher rows le is.1)

  pub below_bound : (rows : List (ℕ × V)) → AreBelow (bound rows) rows
  unfolding AreBelow bound
  below_bound [] = tt
  below_bound (e ∷ rows) = (omega arith, below_higher (bound rows) (e.0 + 1 + bound rows) rows (omega arith) (below_bound rows))

-- what stands under each number of a range, one after the other
unfoldable pub by_numbers : {A : Type 0} → (ℕ → List A) → ℕ → ℕ → List A
by_numbers f low zero = []
by_numbers f low (suc n) = f low ++ by_numbers f (low + 1) n

module _ {A : Type 0} where
  pub by_numbers_same : (f g : ℕ → List A) (low n : ℕ) → ((q : ℕ) → low ≤ q → f q ≡ g q) → by_numbers f low n ≡ by_numbers g low n
  unfolding by_numbers
  by_numbers_same f g low zero same = refl
  by_numbers_same f g low (suc n) same =
      ap (λ (l : List A). l ++ by_numbers f (low + 1) n) (same low (omega arith)) ∙ ap (λ (l : List A). g low ++ l) (by_numbers_same f g (low + 1) n (λ q le. same q (omega (arith, le))))

module _ {V A : Type 0} (g : ℕ × V → List A) where
  pub numbers_of : (n low high : ℕ) (rows : List (ℕ × V)) → Ascends low rows → AreBelow high rows → high ≡ low + n → flat_map g rows ≡ by_numbers (λ q. given_at g q (row_at q rows)) low n
  unfolding by_numbers given_at Ascends AreBelow
  numbers_of zero low high [] is below sum = refl
  numbers_of zero low high (e ∷ rows) is below sum = absurd (omega (arith, is.0, below.0, sum))
  numbers_of (suc n) low high [] is below sum = numbers_of n (low + 1) high [] tt tt (omega (arith, sum))
  numbers_of (suc n) low high (e ∷ rows) is below sum =
      let all : ℕ → List A = λ q. given_at g q (row_at q (e ∷ rows)) in
      elim (cases_eq low e.0) [
        | inl same ↦
            let later : (q : ℕ) → low + 1 ≤ q → given_at g q (row_at q rows) ≡ all q = λ q le. ap (given_at g q) (sym (row_later e rows q (λ h. omega (arith, h, le, same)))) in
            let here : all low ≡ g e = ap (λ (k : ℕ). all k) same ∙ ap (given_at g e.0) (row_first e rows) in
            ap (λ (l : List A). g e ++ l) (numbers_of n (low + 1) high rows (ascends_lower (low + 1) (e.0 + 1) rows (omega (arith, same)) is.1) below.1 (omega (arith, sum)))
            ∙ ap (λ (l : List A). g e ++ l) (by_numbers_same (λ q. given_at g q (row_at q rows)) all (low + 1) n later)
            ∙ ap (λ (l : List A). l ++ by_numbers all (low + 1) n) (sym here)
        | inr other ↦
            let above : low + 1 ≤ e.0 = grind (arith, other, is.0) in
            let none : all low ≡ [] = ap (given_at g low) (row_later e rows low other ∙ none_below (e.0 + 1) low rows is.1 (omega (arith, is.0))) in
            numbers_of n (low + 1) high (e ∷ rows) (above, is.1) below (omega (arith, sum)) ∙ ap (λ (l : List A). l ++ by_numbers all (low + 1) n) (sym none)
      ]

-- two lists give the same where they give the same under each number
pub same_by_numbers : {V W A : Type 0} (g : ℕ × V → List A) (h : ℕ × W → List A) (xs : List (ℕ × V)) (ys : List (ℕ × W)) → Ascends 0 xs → Ascends 0 ys → ((q : ℕ) → given_at g q (row_at q xs) ≡ given_at h q (row_at q ys)) → flat_map g xs ≡ flat_map h ys
same_by_numbers {V} {W} {A} g h xs ys is-x is-y same =
    let n : ℕ = bound xs + bound ys in
    let zero-sum : n ≡ 0 + n = omega arith in
    numbers_of g n 0 n xs is-x (below_higher (bound xs) n xs (omega arith) (below_bound xs)) zero-sum
    ∙ by_numbers_same (λ q. given_at g q (row_at q xs)) (λ q. given_at h q (row_at q ys)) 0 n (λ q le. same q)
    ∙ sym (numbers_of h n 0 n ys is-y (below_higher (bound ys) n ys (omega arith) (below_bound ys)) zero-sum)

-- ---- sums

-- what stands under a number, or 0
unfoldable pub weight_at : {V : Type 0} → (ℕ × V → ℕ) → ℕ → Option V → ℕ
weight_at w q None = 0
weight_at w q (Some v) = w (q, v)

-- all but what stands under one number
unfoldable pub all_but : {V : Type 0} → ℕ → (ℕ × V → ℕ) → ℕ × V → ℕ
all_but k w e = if e.0 == k then 0 else w e

module _ {V : Type 0} (w : ℕ × V → ℕ) where
  all_but_here : (k : ℕ) (e : ℕ × V) → e.0 ≡ k → all_but k w e ≡ 0
  unfolding all_but
  all_but_here k e same = ap (λ (b : Bool). if b then 0 else w e) (eq-eqb e.0 k same)

  all_but_other : (k : ℕ) (e : ℕ × V) → (e.0 ≡ k → ⊥) → all_but k w e ≡ w e
  unfolding all_but
  all_but_other k e other = ap (λ (b : Bool). if b then 0 else w e) (ne_eqb e.0 k other)

  pub one_apart : (low k : ℕ) (rows : List (ℕ × V)) → Ascends low rows → sum_by w rows ≡ sum_by (all_but k w) rows + weight_at w k (row_at k rows)
  unfolding Ascends weight_at
  one_apart low k [] is = omega arith
  one_apart low k (e ∷ rows) is =
      let rest : sum_by w rows ≡ sum_by (all_but k w) rows + weight_at w k (row_at k rows) = one_apart (e.0 + 1) k rows is.1 in
      let whole : sum_by w (e ∷ rows) ≡ w e + sum_by w rows = sum_by-cons w e rows in
      let whole' : sum_by (all_but k w) (e ∷ rows) ≡ all_but k w e + sum_by (all_but k w) rows = sum_by-cons (all_but k w) e rows in
      elim (cases_eq e.0 k) [
        | inl same ↦
            let here : weight_at w k (row_at k (e ∷ rows)) ≡ w e = ap (λ (n : ℕ). weight_at w n (row_at n (e ∷ rows))) (sym same) ∙ ap (weight_at w e.0) (row_first e rows) in
            let none : weight_at w k (row_at k rows) ≡ 0 = ap (weight_at w k) (none_below (e.0 + 1) k rows is.1 (omega (arith, same))) in
            let gone : all_but k w e ≡ 0 = all_but_here k e same in
            omega (arith, rest, whole, whole', here, none, gone)
        | inr other ↦
            let there : weight_at w k (row_at k (e ∷ rows)) ≡ weight_at w k (row_at k rows) = ap (weight_at w k) (row_later e rows k (λ h. other (sym h))) in
            let stays : all_but k w e ≡ w e = all_but_other k e other in
            omega (arith, rest, whole, whole', there, stays)
      ]

-- what holds of what stands under each number holds of each row
pub all_rows : {V : Type 0} (P : ℕ × V → Type 0) (low : ℕ) (rows : List (ℕ × V)) → Ascends low rows → ((q : ℕ) (v : V) → row_at q rows ≡ Some v → P (q, v)) → AllByRecursion P rows
unfolding Ascends
all_rows P low [] is each = tt
all_rows {V} P low (e ∷ rows) is each = (
  each e.0 e.1 (row_first e rows),
  all_rows P (e.0 + 1) rows is.1 (λ q v there. elim (cases_eq q e.0) [
    | inl same ↦ absurd (apart v (sym (none_below (e.0 + 1) q rows is.1 (omega (arith, same))) ∙ there))
    | inr other ↦ each q v (row_later e rows q other ∙ there)
  ]),
)
  where
    apart : (v : V) → (let o : Option V = None in o ≡ Some v) → ⊥
    apart v h = cc

pub same_sums : {V : Type 0} (f g : ℕ × V → ℕ) (rows : List (ℕ × V)) → AllByRecursion (λ e. f e ≡ g e) rows → sum_by f rows ≡ sum_by g rows
same_sums f g [] same = refl
same_sums f g (e ∷ rows) same =
    sum_by-cons f e rows ∙ ap (λ (n : ℕ). n + sum_by f rows) same.0 ∙ ap (λ (n : ℕ). g e + n) (same_sums f g rows same.1) ∙ sym (sum_by-cons g e rows)

-- of a list that gives something under one number alone
pub only_one : {V A : Type 0} (g : ℕ × V → List A) (k low : ℕ) (rows : List (ℕ × V)) → Ascends low rows → flat_map (λ e. if e.0 == k then g e else []) rows ≡ given_at g k (row_at k rows)
unfolding Ascends given_at
only_one g k low [] is = refl
only_one {V} {A} g k low (e ∷ rows) is =
    let rest : flat_map (λ x. if x.0 == k then g x else []) rows ≡ given_at g k (row_at k rows) = only_one g k (e.0 + 1) rows is.1 in
    elim (cases_eq e.0 k) [
      | inl same ↦
          let none : row_at k rows ≡ None = none_below (e.0 + 1) k rows is.1 (omega (arith, same)) in
          ap (λ (b : Bool). (if b then g e else []) ++ flat_map (λ x. if x.0 == k then g x else []) rows) (eq-eqb e.0 k same)
          ∙ ap (λ (l : List A). g e ++ l) (rest ∙ ap (given_at g k) none)
          ∙ append-nil (g e)
          ∙ sym (ap (given_at g e.0) (row_first e rows))
          ∙ ap (λ (n : ℕ). given_at g n (row_at n (e ∷ rows))) same
      | inr other ↦
          ap (λ (b : Bool). (if b then g e else []) ++ flat_map (λ x. if x.0 == k then g x else []) rows) (ne_eqb e.0 k other)
          ∙ rest
          ∙ ap (given_at g k) (sym (row_later e rows k (λ h. other (sym h))))
    ]
