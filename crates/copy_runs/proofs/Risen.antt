-- The count of refused steps rises by those that were refused.
use Rattle.std.proofs.Common.{◌≡◌, ◌⊎◌, inl, inr, ℕ, ◌+◌, ◌-◌, ◌^◌, ◌≤◌, ◌&&◌, suc, Bool, true, false, cond, nat_lt, List, [], ◌∷◌, filter, length, refl, sym, ap, subst, arith, if◌then◌else◌}
use Rattle.std.proofs.lemmas.Bool.{ltb-false}
use Rattle.steps.specs.Calls.{Call, risen, risen_by}
use Rattle.steps.specs.Events.{Deed, Event}
use Rattle.copy_runs.specs.Runs.{failing_in, is_failing}

by-test : (count : ℕ) (d : Deed) (b : Bool) → is_failing d ≡ b → risen_by count d ≡ (if b && nat_lt count (2 ^ 64 - 1) then count + 1 else count)
by-test count d b h = ap (λ c. if c && nat_lt count (2 ^ 64 - 1) then count + 1 else count) h

by-grows : (count : ℕ) (d : Deed) → count ≤ risen_by count d
by-grows count d = elim (is_failing d && nat_lt count (2 ^ 64 - 1)) as (λ b. count ≤ (if b then count + 1 else count)) [
  | true ↦ omega arith
  | false ↦ omega arith
]

grows : (count : ℕ) (xs : List Event) → count ≤ risen count xs
grows count [] = omega arith
grows count (e ∷ xs) =
    let a : count ≤ risen_by count e.deed = by-grows count e.deed in
    let b : risen_by count e.deed ≤ risen (risen_by count e.deed) xs = grows (risen_by count e.deed) xs in
    omega arith

abbrev Rises : (count more upto : ℕ) → Type 0
Rises count more upto = (count + more ≤ upto) ⊎ (2 ^ 64 - 1 ≤ upto)

one-more : (count more upto : ℕ) → Rises (count + 1) more upto → Rises count (suc more) upto
one-more count more upto (inl h) = inl (omega arith)
one-more count more upto (inr h) = inr h

-- all failing steps are counted, unless the count is at its last value
pub rises : (count : ℕ) (xs : List Event) → Rises count (failing_in xs) (risen count xs)
rises count [] = inl (omega arith)
rises count (e ∷ xs) =
    elim (is_failing e.deed) as (λ b. is_failing e.deed ≡ b
    → Rises count (length (cond b (e ∷ filter (λ (x : Event). is_failing x.deed) xs) (filter (λ (x : Event). is_failing x.deed) xs))) (risen (risen_by count e.deed) xs)) [
      | false ↦ λ h. subst (λ (n : ℕ). Rises count (failing_in xs) (risen n xs)) (sym (by-test count e.deed false h)) (rises count xs)
      | true ↦ λ h. subst (λ (n : ℕ). Rises count (suc (failing_in xs)) (risen n xs)) (sym (by-test count e.deed true h))
          (elim (nat_lt count (2 ^ 64 - 1)) as (λ b. nat_lt count (2 ^ 64 - 1) ≡ b → Rises count (suc (failing_in xs)) (risen (if b then count + 1 else count) xs)) [
            | true ↦ λ less. one-more count (failing_in xs) (risen (count + 1) xs) (rises (count + 1) xs)
            | false ↦ λ full. (let last : 2 ^ 64 - 1 ≤ count = ltb-false count (2 ^ 64 - 1) full in let up : count ≤ risen count xs = grows count xs in inr (omega arith))
          ] refl)
    ] refl

pub call-rises : {S : Type 0} (did : S → List Event → S → Type 0) (refused_of : S → ℕ) → ((p q : S) (xs : List Event) → did p xs q → refused_of q ≡ risen (refused_of p) xs) → (Q : List Event
    → Type 0) (p q : S) (m : ℕ)
    → Call did p q Q → ((events : List Event) → Q events → m ≤ failing_in events) → Rises (refused_of p) m (refused_of q)
call-rises did refused_of counts Q p q m a few =
    let l : m ≤ failing_in a.0 = few a.0 a.2 in
    let is : refused_of q ≡ risen (refused_of p) a.0 = counts p q a.0 a.1 in
    elim (rises (refused_of p) a.0) as (λ _. Rises (refused_of p) m (refused_of q)) [
      | inl h ↦ inl (omega arith)
      | inr h ↦ inr (omega arith)
    ]
