-- Lists of which elements are left out.
use Rattle.std.proofs.Common.{◌≡◌, ℕ, Bool, true, false, cond, List, [], ◌∷◌, ◌++◌, map, refl, sym, ap, ◌∙◌, arith}
use Rattle.std.specs.Prelude.{◌==◌}
use Rattle.std.specs.BTreeMap.{is_at}
use Rattle.std.specs.List.{AllByRecursion, filter, flat_map, list_all}
use Rattle.std.specs.Ordering.{nat_cmp}
use Rattle.std.proofs.lemmas.Bool.{and_from, and_parts}
use Rattle.std.proofs.lemmas.Bool.Decides.{nat_tests}
use Rattle.inventory_laws.proofs.Orders.{filter-append}
use Rattle.inventory_rows.specs.version_groups.Entries.{all_later}

pub same_number : (x y : ℕ) → is_at (nat_cmp x) y ≡ (x == y)
same_number x y = grind (arith, nat_tests)

pub each_kept : {A : Type 0} (P : A → Type 0) (q : A → Bool) (xs : List A) → AllByRecursion P xs → AllByRecursion P (filter q xs)
each_kept P q [] h = tt
each_kept P q (x ∷ xs) h = elim (q x) as (λ b. AllByRecursion P (cond b (x ∷ filter q xs) (filter q xs))) [
  | true ↦ (h.0, each_kept P q xs h.1)
  | false ↦ each_kept P q xs h.1
]

all_kept : {A : Type 0} (p q : A → Bool) (xs : List A) → list_all p xs ≡ true → list_all p (filter q xs) ≡ true
all_kept p q [] h = refl
all_kept p q (x ∷ xs) h =
    let t = and_parts (p x) (list_all p xs) h in
    elim (q x) as (λ b. list_all p (cond b (x ∷ filter q xs) (filter q xs)) ≡ true) [
      | true ↦ and_from (p x) (list_all p (filter q xs)) t.0 (all_kept p q xs t.1)
      | false ↦ all_kept p q xs t.1
    ]

pub later_kept : {A : Type 0} (r : A → A → Bool) (q : A → Bool) (xs : List A) → all_later r xs ≡ true → all_later r (filter q xs) ≡ true
later_kept r q [] h = refl
later_kept r q (x ∷ xs) h =
    let t = and_parts (list_all (r x) xs) (all_later r xs) h in
    elim (q x) as (λ b. all_later r (cond b (x ∷ filter q xs) (filter q xs)) ≡ true) [
      | true ↦ and_from (list_all (r x) (filter q xs)) (all_later r (filter q xs)) (all_kept (r x) q xs t.0) (later_kept r q xs t.1)
      | false ↦ later_kept r q xs t.1
    ]

-- all that comes with one element is kept, or none of it
with_kept : {A B : Type 0} (q : A → Bool) (x : A) (ys : List B) → q x ≡ true → filter (λ (e : A × B). q e.0) (map (λ y. (x, y)) ys) ≡ map (λ y. (x, y)) ys
with_kept q x [] h = refl
with_kept {A} {B} q x (y ∷ ys) h =
    ap (λ b. cond b ((x, y) ∷ filter (λ (e : A × B). q e.0) (map (λ z. (x, z)) ys)) (filter (λ (e : A × B). q e.0) (map (λ z. (x, z)) ys))) h
    ∙ ap (λ (l : List (A × B)). (x, y) ∷ l) (with_kept q x ys h)

with_left : {A B : Type 0} (q : A → Bool) (x : A) (ys : List B) → q x ≡ false → filter (λ (e : A × B). q e.0) (map (λ y. (x, y)) ys) ≡ []
with_left q x [] h = refl
with_left {A} {B} q x (y ∷ ys) h =
    ap (λ b. cond b ((x, y) ∷ filter (λ (e : A × B). q e.0) (map (λ z. (x, z)) ys)) (filter (λ (e : A × B). q e.0) (map (λ z. (x, z)) ys))) h
    ∙ with_left q x ys h

pub pairs_kept : {A B : Type 0} (g : A → List B) (q : A → Bool) (xs : List A)
    → flat_map (λ x. map (λ y. (x, y)) (g x)) (filter q xs) ≡ filter (λ (e : A × B). q e.0) (flat_map (λ x. map (λ y. (x, y)) (g x)) xs)
pairs_kept g q [] = refl
pairs_kept {A} {B} g q (x ∷ xs) =
    let f : A → List (A × B) = λ z. map (λ y. (z, y)) (g z) in
    let rest : flat_map f (filter q xs) ≡ filter (λ (e : A × B). q e.0) (flat_map f xs) = pairs_kept g q xs in
    let joined : filter (λ (e : A × B). q e.0) (f x ++ flat_map f xs) ≡ filter (λ (e : A × B). q e.0) (f x) ++ filter (λ (e : A × B). q e.0) (flat_map f xs) = filter-append (λ (e : A × B). q e.0)
    (f x) (flat_map f xs) in
    elim (q x) as (λ b. q x ≡ b → flat_map f (cond b (x ∷ filter q xs) (filter q xs)) ≡ filter (λ (e : A × B). q e.0) (f x ++ flat_map f xs)) [
      | true ↦ λ h. ap (λ (l : List (A × B)). f x ++ l) rest ∙ ap (λ (l : List (A × B)). l ++ filter (λ (e : A × B). q e.0) (flat_map f xs)) (sym (with_kept q x (g x) h)) ∙ sym joined
      | false ↦ λ h. rest ∙ ap (λ (l : List (A × B)). l ++ filter (λ (e : A × B). q e.0) (flat_map f xs)) (sym (with_left q x (g x) h)) ∙ sym joined
    ] refl
