-- Sums of counts of faults, and which segments are lost where such a sum is another one than before.
use Rattle.std.proofs.Common.{◌≡◌, inl, inr, ℕ, ◌+◌, ◌-◌, ◌^◌, ◌<◌, ◌≤◌, eqb, Bool, true, false, cond, ◌&&◌, ◌||◌, nat_lt, List, [], ◌∷◌, Option, None, Some, refl, sym, ap, subst, ◌∙◌, arith}
use Rattle.std.specs.List.{AllByRecursion, Contains}
use Rattle.std.proofs.lemmas.Bool.{cases_lt, eqb-true, lt-ltb, ltb-true}
use Rattle.std.proofs.lemmas.List.Elements.{All-contains, All-from_recursion, Contains-append_right, Contains-get_or}
use Rattle.std.proofs.lemmas.Option.{same_Some}
use Rattle.kinds.specs.declared.segment.Segment.{Segment}
use Rattle.store_api.specs.Cause.{NoneFell}
use Rattle.inventory_rows.specs.State.{Inv}
use Rattle.contents.specs.Reading.{lies_in_file}
use Rattle.placing.specs.Placing.{is_readable}
use Rattle.machine.specs.Pieces.{IsLost, RoseAt}
use Rattle.hall.specs.Reading.{both, count_of, tally}

-- ---- sums

-- the parts of a sum that is there
parts : (a b : Option ℕ) (n : ℕ) → both a b ≡ Some n → (x : ℕ) × (y : ℕ) × (a ≡ Some x) × (b ≡ Some y) × (x + y ≡ n)
parts None b n h = absurd cc
parts (Some x) None n h = absurd cc
parts (Some x) (Some y) n h = (x, y, refl, refl, same_Some (x + y) n h)

-- ---- two sums

-- one of the segments is lost
abbrev pub SomeLost : (rose : ℕ → Type 0) → Inv → List Segment → Type 0
SomeLost rose v segments = (s : Segment) × Contains segments s × IsLost rose v s

pub lost_here : (rose : ℕ → Type 0) (v : Inv) (s : Segment) (segments : List Segment) → IsLost rose v s → SomeLost rose v (s ∷ segments)
lost_here rose v s segments lost = (s, Contains-get_or (s ∷ segments) 0 s (omega arith), lost)

pub lost_there : (rose : ℕ → Type 0) (v : Inv) (s : Segment) (segments : List Segment) → SomeLost rose v segments → SomeLost rose v (s ∷ segments)
lost_there rose v s segments lost = (lost.0, Contains-append_right (s ∷ []) segments lost.0 lost.1, lost.2)

-- it stays lost while counts rise
pub lost_still : (rose more : ℕ → Type 0) (v : Inv) (segments : List Segment) → ((file : ℕ) → rose file → more file) → SomeLost rose v segments → SomeLost more v segments
lost_still rose more v segments up lost = (lost.0, lost.1, still lost.0 lost.2)
  where
    still : (s : Segment) → IsLost rose v s → IsLost more v s
    still s (inl volume) = inl volume
    still s (inr risen) = inr (up s.file risen)

-- where none of them is
pub none_of : (rose : ℕ → Type 0) (v : Inv) (segments : List Segment) → AllByRecursion (λ s. ¬ IsLost rose v s) segments → ¬ SomeLost rose v segments
none_of rose v segments none lost = All-contains (λ s. ¬ IsLost rose v s) segments lost.0 (All-from_recursion (λ s. ¬ IsLost rose v s) segments none) lost.1 lost.2

-- the count of a file in which one of them lies rose
pub risen_lost : (rose : ℕ → Type 0) (v : Inv) (file : ℕ) (segments : List Segment) → rose file → lies_in_file segments file ≡ true → SomeLost rose v segments
risen_lost rose v file [] risen h = absurd cc
risen_lost rose v file (s ∷ segments) risen h =
    elim (eqb s.file file) as (λ b. eqb s.file file ≡ b → (b || lies_in_file segments file) ≡ true → SomeLost rose v (s ∷ segments)) [
      | true ↦ λ e t. lost_here rose v s segments (inr (subst rose (sym (eqb-true s.file file e)) risen))
      | false ↦ λ e t. lost_there rose v s segments (risen_lost rose v file segments risen t)
    ] refl h

-- what a count that is told says
told : (b c : Bool) (count n : ℕ) → (if_both : cond (b && c) (Some count) None ≡ Some n) → (b ≡ true) × (c ≡ true) × (count ≡ n)
told true true count n h = (refl, refl, same_Some count n h)
told true false count n h = absurd cc
told false c count n h = absurd cc

module _ (before after : ℕ → ℕ) (v : Inv) (grew : NoneFell before after) where
  abbrev rose : ℕ → Type 0
  rose = RoseAt before after

  -- a sum doesn't fall
  grown : (segments : List Segment) (n m : ℕ) → tally before v segments ≡ Some n → tally after v segments ≡ Some m → n ≤ m
  grown [] n m was is = let a : 0 ≡ n = same_Some 0 n was in let b : 0 ≡ m = same_Some 0 m is in omega (arith, a, b)
  grown (s ∷ segments) n m was is =
      let p = parts (count_of before v s.file) (tally before v segments) n was in
      let q = parts (count_of after v s.file) (tally after v segments) m is in
      let a = told (is_readable s.file v) (nat_lt (before s.file) (2 ^ 64 - 1)) (before s.file) p.0 p.2 in
      let b = told (is_readable s.file v) (nat_lt (after s.file) (2 ^ 64 - 1)) (after s.file) q.0 q.2 in
      let here : before s.file ≤ after s.file = grew s.file in
      let rest : p.1 ≤ q.1 = grown segments p.1 q.1 p.3 q.3 in
      omega (arith, p.4, q.4, a.2, b.2, here, rest)

  not_lost : (s : Segment) → is_readable s.file v ≡ true → before s.file < 2 ^ 64 - 1 → after s.file ≡ before s.file → ¬ IsLost rose v s
  not_lost s readable low same (inl volume) = let clash : true ≡ false = sym readable ∙ volume in absurd cc
  not_lost s readable low same (inr risen) = omega (arith, risen, low, same)

  -- where the sum is the same no segment is lost
  pub none_lost : (segments : List Segment) (n : ℕ) → tally before v segments ≡ Some n → tally after v segments ≡ Some n → AllByRecursion (λ s. ¬ IsLost rose v s) segments
  none_lost [] n was is = tt
  none_lost (s ∷ segments) n was is =
      let p = parts (count_of before v s.file) (tally before v segments) n was in
      let q = parts (count_of after v s.file) (tally after v segments) n is in
      let a = told (is_readable s.file v) (nat_lt (before s.file) (2 ^ 64 - 1)) (before s.file) p.0 p.2 in
      let b = told (is_readable s.file v) (nat_lt (after s.file) (2 ^ 64 - 1)) (after s.file) q.0 q.2 in
      let here : before s.file ≤ after s.file = grew s.file in
      let rest : p.1 ≤ q.1 = grown segments p.1 q.1 p.3 q.3 in
      let one : after s.file ≡ before s.file = omega (arith, p.4, q.4, a.2, b.2, here, rest) in
      let others : q.1 ≡ p.1 = omega (arith, p.4, q.4, a.2, b.2, here, rest) in
      (not_lost s a.0 (ltb-true (before s.file) (2 ^ 64 - 1) a.1) one, none_lost segments p.1 p.3 (q.3 ∙ ap Some others))

  -- where it isn't one of them is
  pub some_lost : (segments : List Segment) → ((n : ℕ) → tally before v segments ≡ Some n → tally after v segments ≡ Some n → ⊥) → SomeLost rose v segments
  some_lost [] differs = absurd (differs 0 refl refl)
  some_lost (s ∷ segments) differs =
      elim (is_readable s.file v) as (λ b. is_readable s.file v ≡ b → SomeLost rose v (s ∷ segments)) [
        | false ↦ λ volume. lost_here rose v s segments (inl volume)
        | true ↦ λ readable. elim (cases_lt (after s.file) (2 ^ 64 - 1)) [
          | inr full ↦ let here : before s.file ≤ after s.file = grew s.file in lost_here rose v s segments (inr (omega (arith, full, here)))
          | inl low ↦ elim (cases_lt (before s.file) (after s.file)) [
            | inl more ↦ lost_here rose v s segments (inr (omega (arith, more)))
            | inr less ↦ lost_there rose v s segments (some_lost segments (λ n was is. let same = others readable low less in
                differs (before s.file + n) (ap (λ o. both o (tally before v segments)) same.0 ∙ ap (both (Some (before s.file))) was) (ap (λ o. both o (tally after v segments)) same.1 ∙ ap (both (Some (before s.file))) is)))
          ]
        ]
      ] refl
    where
      others : is_readable s.file v ≡ true → after s.file < 2 ^ 64 - 1 → after s.file ≤ before s.file
          → (count_of before v s.file ≡ Some (before s.file)) × (count_of after v s.file ≡ Some (before s.file))
      others readable low less =
          let here : before s.file ≤ after s.file = grew s.file in
          let same : after s.file ≡ before s.file = omega (arith, less, here) in
          let first : nat_lt (before s.file) (2 ^ 64 - 1) ≡ true = lt-ltb (before s.file) (2 ^ 64 - 1) (omega (arith, low, here)) in
          let second : nat_lt (after s.file) (2 ^ 64 - 1) ≡ true = lt-ltb (after s.file) (2 ^ 64 - 1) low in (
            ap (λ b. cond (b && nat_lt (before s.file) (2 ^ 64 - 1)) (Some (before s.file)) None) readable ∙ ap (λ b. cond b (Some (before s.file)) None) first,
            ap (λ b. cond (b && nat_lt (after s.file) (2 ^ 64 - 1)) (Some (after s.file)) None) readable ∙ ap (λ b. cond b (Some (after s.file)) None) second ∙ ap Some same,
          )
