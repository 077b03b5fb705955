-- Numbers with how often each stands in a bag.
use Rattle.std.proofs.Common.{◌≡◌, ℕ, ◌+◌, ◌-◌, ◌<◌, ◌≤◌, Bool, List, [], ◌∷◌, length, Option, Some, None, unwrap_or, slice_get, suc, refl, sym, ap, subst, ◌∙◌, arith, inl, inr}
use Rattle.std.specs.Prelude.{◌≢◌, if◌then◌else◌}
use Rattle.std.specs.List.Sorted.{IsStrictlySortedBy}
use Rattle.std.specs.Map.{keys_of}
use Rattle.std.specs.Ordering.{nat_cmp}
use Rattle.std.proofs.lemmas.Bool.{cases_eq, eq-eqb, ne_eqb}
use Rattle.std.proofs.lemmas.Option.{same_Some}
use Rattle.pool_tables.specs.Rows.{row_at}
use Rattle.space_index.specs.Claimed.{times_in, IsBag, IsMoreAt, lone, greatest}
use Rattle.space_index.specs.Listed.{some_room, IsSetAt}
use Rattle.space_index.proofs.Numbers.{Ascends, ascends_sorted, row_first, row_later}

pub some_or : (n : ℕ) → unwrap_or (some_room n) 0 ≡ n
some_or n = elim (cases_eq n 0) [
  | inl none ↦ ap (λ (b : Bool). unwrap_or (if b then None else Some n) 0) (eq-eqb n 0 none) ∙ sym none
  | inr some ↦ ap (λ (b : Bool). unwrap_or (if b then None else Some n) 0) (ne_eqb n 0 some)
]

pub some_none : (n : ℕ) → some_room n ≡ None → n ≡ 0
some_none n is = elim (cases_eq n 0) [
  | inl none ↦ none
  | inr some ↦ absurd (apart (sym (ap (λ (b : Bool). if b then None else Some n) (ne_eqb n 0 some)) ∙ is))
] where
  apart : (let o : Option ℕ = None in Some n ≡ o) → ⊥
  apart h = cc

some_there : (n m : ℕ) → some_room n ≡ Some m → n ≡ 0 → ⊥
some_there n m is none = apart (sym (ap (λ (b : Bool). if b then None else Some n) (eq-eqb n 0 none)) ∙ is) where
  apart : (let o : Option ℕ = None in o ≡ Some m) → ⊥
  apart h = cc

-- how often a number is there
pub bag_times : (counts : List (ℕ × ℕ)) (f : ℕ → ℕ) (n : ℕ) → IsBag counts f → times_in n counts ≡ f n
bag_times counts f n is = ap (λ (o : Option ℕ). unwrap_or o 0) (is.each n) ∙ some_or (f n)

bag_set : (old new : List (ℕ × ℕ)) (f g : ℕ → ℕ) (n k : ℕ) → IsBag old f → IsSetAt n (some_room k) old new → IsStrictlySortedBy nat_cmp (keys_of new) → k ≡ g n → ((q : ℕ) → q ≢ n → g q ≡ f q) → IsBag new g
bag_set old new f g n k is set sorted here others = record {
  each = λ q. elim (cases_eq q n) [
    | inl same ↦ ap (λ (p : ℕ). row_at p new) same ∙ set.here ∙ ap some_room (here ∙ ap g (sym same))
    | inr apart ↦ set.others q apart ∙ is.each q ∙ ap some_room (sym (others q apart))
  ];
  sorted = sorted;
}

pub bag_put : (old new : List (ℕ × ℕ)) (less more : ℕ → ℕ) (n k : ℕ) → IsBag old less → IsMoreAt n less more → k ≡ times_in n old + 1 → IsSetAt n (some_room k) old new → IsStrictlySortedBy nat_cmp (keys_of new) → IsBag new more
bag_put old new less more n k is one count set sorted =
    bag_set old new less more n k is set sorted (count ∙ ap (λ (m : ℕ). m + 1) (bag_times old less n is) ∙ sym one.here) one.others

pub bag_take : (old new : List (ℕ × ℕ)) (less more : ℕ → ℕ) (n k : ℕ) → IsBag old more → IsMoreAt n less more → k ≡ times_in n old - 1 → IsSetAt n (some_room k) old new → IsStrictlySortedBy nat_cmp (keys_of new) → IsBag new less
bag_take old new less more n k is one count set sorted =
    bag_set old new more less n k is set sorted (omega (arith, count, bag_times old more n is, one.here)) (λ q apart. sym (one.others q apart))

-- ---- the same said of equal numbers

pub bag_same : (counts : List (ℕ × ℕ)) (f g : ℕ → ℕ) → ((n : ℕ) → f n ≡ g n) → IsBag counts f → IsBag counts g
bag_same counts f g same is = record { each = λ n. is.each n ∙ ap some_room (same n); sorted = is.sorted }

pub bag_none : (f : ℕ → ℕ) → ((n : ℕ) → f n ≡ 0) → IsBag [] f
unfolding IsStrictlySortedBy
bag_none f none = record { each = λ n. sym (ap (λ (b : Bool). if b then None else Some (f n)) (eq-eqb (f n) 0 (none n))); sorted = tt }

-- an empty bag has no number
pub bag_empty : (counts : List (ℕ × ℕ)) (f : ℕ → ℕ) → IsBag counts f → counts ≡ [] → (n : ℕ) → f n ≡ 0
bag_empty counts f is none n = some_none (f n) (sym (is.each n) ∙ ap (row_at n) none)

-- one with a number isn't empty
pub bag_some : (counts : List (ℕ × ℕ)) (f : ℕ → ℕ) (n : ℕ) → IsBag counts f → f n ≢ 0 → counts ≢ []
bag_some counts f n is some none = some (bag_empty counts f is none n)

-- ---- the one number, and the last

none_some : (m : ℕ) → (let o : Option ℕ = None in o ≡ Some m) → ⊥
none_some m h = cc

pub lone_else : (counts : List (ℕ × ℕ)) (f : ℕ → ℕ) (n : ℕ) → IsBag counts f → lone counts ≡ Some n → (q : ℕ) → q ≢ n → f q ≡ 0
lone_else [] f n is only q apart = absurd (none_some n only)
lone_else (e ∷ []) f n is only q apart = some_none (f q) (sym (is.each q) ∙ row_later e [] q (λ same. apart (same ∙ same_Some e.0 n only)))
lone_else (e ∷ d ∷ counts) f n is only q apart = absurd (none_some n only)

there : (counts : List (ℕ × ℕ)) (f : ℕ → ℕ) (k m : ℕ) → IsBag counts f → row_at k counts ≡ Some m → f k ≢ 0
there counts f k m is at none = some_there (f k) m (sym (is.each k) ∙ at) none

pub lone_there : (counts : List (ℕ × ℕ)) (f : ℕ → ℕ) (n : ℕ) → IsBag counts f → lone counts ≡ Some n → f n ≢ 0
lone_there [] f n is only = absurd (none_some n only)
lone_there (e ∷ []) f n is only = subst (λ (k : ℕ). f k ≢ 0) (same_Some e.0 n only) (there (e ∷ []) f e.0 e.1 is (row_first e []))
lone_there (e ∷ d ∷ counts) f n is only = absurd (none_some n only)

-- where a number is there beside, or it isn't there itself
pub not_lone : (counts : List (ℕ × ℕ)) (f : ℕ → ℕ) (n : ℕ) → IsBag counts f → counts ≢ [] → (lone counts ≡ Some n → ⊥) → (k : ℕ) × (k ≢ n) × (f k ≢ 0)
unfolding Ascends
not_lone [] f n is some only = absurd (some refl)
not_lone (e ∷ []) f n is some only = (e.0, (λ same. only (ap (λ (k : ℕ). Some k) same)), there (e ∷ []) f e.0 e.1 is (row_first e []))
not_lone (e ∷ d ∷ counts) f n is some only = elim (cases_eq e.0 n) [
  | inr apart ↦ (e.0, apart, there (e ∷ d ∷ counts) f e.0 e.1 is (row_first e (d ∷ counts)))
  | inl same ↦
      let ascend : Ascends 0 (e ∷ d ∷ counts) = ascends_sorted (e ∷ d ∷ counts) is.sorted in
      let later : d.0 ≢ e.0 = λ equal. omega (arith, ascend.1.0, equal) in
      (d.0, (λ here. later (here ∙ sym same)), there (e ∷ d ∷ counts) f d.0 d.1 is (row_later e (d ∷ counts) d.0 later ∙ row_first d counts))
]

greatest_within : (low q m : ℕ) (counts : List (ℕ × ℕ)) → Ascends low counts → row_at q counts ≡ Some m → (q ≤ greatest counts) × (low ≤ greatest counts)
unfolding Ascends
greatest_within low q m [] is at = absurd (none_some m at)
greatest_within low q m (e ∷ []) is at = elim (cases_eq q e.0) [
  | inl same ↦ (omega (arith, same), is.0)
  | inr apart ↦ absurd (none_some m (sym (row_later e [] q apart) ∙ at))
]
greatest_within low q m (e ∷ d ∷ counts) is at =
    let last = greatest_within (e.0 + 1) d.0 d.1 (d ∷ counts) is.1 (row_first d counts) in
    elim (cases_eq q e.0) [
      | inl same ↦ (omega (arith, same, last.1), omega (arith, is.0, last.1))
      | inr apart ↦
          let rest = greatest_within (e.0 + 1) q m (d ∷ counts) is.1 (sym (row_later e (d ∷ counts) q apart) ∙ at) in (rest.0, omega (arith, is.0, rest.1))
    ]

-- no number is greater
pub greatest_above : (counts : List (ℕ × ℕ)) (f : ℕ → ℕ) (q : ℕ) → IsBag counts f → f q ≢ 0 → q ≤ greatest counts
greatest_above counts f q is some = go (row_at q counts) refl where
  go : (o : Option ℕ) → row_at q counts ≡ o → q ≤ greatest counts
  go None at = absurd (some (some_none (f q) (sym (is.each q) ∙ at)))
  go (Some m) at = (greatest_within 0 q m counts (ascends_sorted counts is.sorted) at).0

greatest_row : (low : ℕ) (e : ℕ × ℕ) (counts : List (ℕ × ℕ)) → Ascends low (e ∷ counts) → (m : ℕ) × (row_at (greatest (e ∷ counts)) (e ∷ counts) ≡ Some m)
unfolding Ascends
greatest_row low e [] is = (e.1, row_first e [])
greatest_row low e (d ∷ counts) is =
    let rest = greatest_row (e.0 + 1) d counts is.1 in
    let above = (greatest_within (e.0 + 1) d.0 d.1 (d ∷ counts) is.1 (row_first d counts)).1 in
    (rest.0, row_later e (d ∷ counts) (greatest (d ∷ counts)) (λ same. omega (arith, same, above)) ∙ rest.1)

-- and it is there
pub greatest_there : (counts : List (ℕ × ℕ)) (f : ℕ → ℕ) → IsBag counts f → counts ≢ [] → f (greatest counts) ≢ 0
greatest_there [] f is some = absurd (some refl)
greatest_there (e ∷ counts) f is some =
    let row = greatest_row 0 e counts (ascends_sorted (e ∷ counts) is.sorted) in
    there (e ∷ counts) f (greatest (e ∷ counts)) row.0 is row.1

-- ---- as they are looked up

pub lone_first : (counts : List (ℕ × ℕ)) (n m : ℕ) → length counts ≡ 1 → slice_get counts 0 ≡ Some (n, m) → lone counts ≡ Some n
lone_first [] n m one at = absurd (omega (arith, one))
lone_first (e ∷ []) n m one at = ap (λ (p : ℕ × ℕ). Some p.0) (same_Some e (n, m) at)
lone_first (e ∷ d ∷ counts) n m one at = absurd (omega (arith, one))

pub lone_none : (counts : List (ℕ × ℕ)) → (length counts ≡ 1 → ⊥) → lone counts ≡ None
lone_none [] other = refl
lone_none (e ∷ []) other = absurd (other refl)
lone_none (e ∷ d ∷ counts) other = refl

pub greatest_last : (counts : List (ℕ × ℕ)) (n m : ℕ) → slice_get counts (length counts - 1) ≡ Some (n, m) → greatest counts ≡ n
greatest_last [] n m at = absurd (apart at) where
  apart : (let o : Option (ℕ × ℕ) = None in o ≡ Some (n, m)) → ⊥
  apart h = cc
greatest_last (e ∷ []) n m at = ap (λ (p : ℕ × ℕ). p.0) (same_Some e (n, m) at)
greatest_last (e ∷ d ∷ counts) n m at =
    let now : length (d ∷ counts) - 1 ≡ length counts = omega arith in
    let was : length counts + 1 ≡ length (e ∷ d ∷ counts) - 1 = omega arith in
    let one : length counts + 1 ≡ suc (length counts) = omega arith in
    greatest_last (d ∷ counts) n m (ap (slice_get (d ∷ counts)) now ∙ ap (slice_get (e ∷ d ∷ counts)) (sym one ∙ was) ∙ at)

pub greatest_none : (counts : List (ℕ × ℕ)) → (0 < length counts → ⊥) → greatest counts ≡ 0
greatest_none [] none = refl
greatest_none (e ∷ counts) none = absurd (none (omega arith))
