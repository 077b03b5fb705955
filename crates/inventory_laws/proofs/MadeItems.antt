-- Items of a list that are judged one by one.
use Rattle.std.proofs.Common.{◌≡◌, ℕ, Bool, true, false, not, List, [], ◌∷◌, map, refl, sym, ◌∙◌}
use Rattle.std.specs.Prelude.{eqb, ◌==◌}
use Rattle.std.specs.List.{flat_map, list_all}
use Rattle.std.proofs.lemmas.List.Folds.{list_all-map}
use Rattle.kinds.specs.declared.refusal.Refusal.{Refusal}
use Rattle.inventory_rules.specs.inventory_rows.version_groups.Entries.{all_later}
use Rattle.inventory_laws.proofs.Facts.{both, first, rest}
use Rattle.inventory_laws.proofs.Causes.{back_nil, front_nil, not_false}

module _ {X : Type 0} where
  -- where no item is refused, what its test says holds of each
  pub none_refused : (f : X → List Refusal) (p : X → Bool) → ((x : X) → f x ≡ [] → p x ≡ true) → (xs : List X) → flat_map f xs ≡ [] → list_all p xs ≡ true
  none_refused f p says [] h = refl
  none_refused f p says (x ∷ xs) h =
      both (p x) (list_all p xs) (says x (front_nil (f x) (flat_map f xs) h)) (none_refused f p says xs (back_nil (f x) (flat_map f xs) h))

  -- numbers that are each its own are those of items apart
  pub items_apart : (number : X → ℕ) (xs : List X) → all_later (λ a b. not (a == b)) (map number xs) ≡ true → all_later (λ a b. not (number a == number b)) xs ≡ true
  items_apart number [] h = refl
  items_apart number (x ∷ xs) h =
      let here : list_all (λ b. not (number x == b)) (map number xs) ≡ true = first (list_all (λ b. not (number x == b)) (map number xs)) (all_later (λ a b. not (a == b)) (map number xs)) h in
      let there : all_later (λ a b. not (a == b)) (map number xs) ≡ true = rest (list_all (λ b. not (number x == b)) (map number xs)) (all_later (λ a b. not (a == b)) (map number xs)) h in
      both (list_all (λ b. not (number x == number b)) xs) (all_later (λ a b. not (number a == number b)) xs) (sym (list_all-map (λ b. not (number x == b)) number xs) ∙ here) (items_apart number xs there)

  -- what holds of each item of a number that isn't this one still does, where no item is of this one
  pub others_hold : (number : X → ℕ) (k : ℕ) (p q : X → Bool) → ((x : X) → eqb k (number x) ≡ false → p x ≡ true → q x ≡ true) → (xs : List X) → list_all (λ b. not (k == number b)) xs ≡ true → list_all p xs ≡ true → list_all q xs ≡ true
  others_hold number k p q still [] apart h = refl
  others_hold number k p q still (x ∷ xs) apart h =
      let away : eqb k (number x) ≡ false = not_false (eqb k (number x)) (first (not (k == number x)) (list_all (λ b. not (k == number b)) xs) apart) in
      both (q x) (list_all q xs) (still x away (first (p x) (list_all p xs) h))
      (others_hold number k p q still xs (rest (not (k == number x)) (list_all (λ b. not (k == number b)) xs) apart) (rest (p x) (list_all p xs) h))

  -- one test gives another
  pub all_so : (p q : X → Bool) → ((x : X) → p x ≡ true → q x ≡ true) → (xs : List X) → list_all p xs ≡ true → list_all q xs ≡ true
  all_so p q says [] h = refl
  all_so p q says (x ∷ xs) h = both (q x) (list_all q xs) (says x (first (p x) (list_all p xs) h)) (all_so p q says xs (rest (p x) (list_all p xs) h))
