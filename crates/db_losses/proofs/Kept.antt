-- What holds of a list holds of what is left of it.
use Rattle.std.proofs.Common.{◌≡◌, ◌≤◌, Bool, true, false, cond, not, List, [], ◌∷◌, ◌++◌, length, map, filter, refl, arith}
use Rattle.std.specs.List.{list_all}
use Rattle.std.proofs.lemmas.Bool.{and_parts, and_from}
use Rattle.inventory_rows.specs.version_groups.Entries.{all_later}
use Rattle.inventory_rules.specs.Reordered.{IsReordered}

pub all_kept : {X : Type 0} (q p : X → Bool) (xs : List X) → list_all q xs ≡ true → list_all q (filter p xs) ≡ true
all_kept q p [] h = refl
all_kept {X} q p (x ∷ xs) h =
    let parts = and_parts (q x) (list_all q xs) h in
    let below = all_kept q p xs parts.1 in
    elim (p x) as (λ b. list_all q (cond b (x ∷ filter p xs) (filter p xs)) ≡ true) [
      | true ↦ and_from (q x) (list_all q (filter p xs)) parts.0 below
      | false ↦ below
    ]

pub later_kept : {X : Type 0} (r : X → X → Bool) (p : X → Bool) (xs : List X) → all_later r xs ≡ true → all_later r (filter p xs) ≡ true
later_kept r p [] h = refl
later_kept {X} r p (x ∷ xs) h =
    let parts = and_parts (list_all (r x) xs) (all_later r xs) h in
    let below = later_kept r p xs parts.1 in
    let here = all_kept (r x) p xs parts.0 in
    elim (p x) as (λ b. all_later r (cond b (x ∷ filter p xs) (filter p xs)) ≡ true) [
      | true ↦ and_from (list_all (r x) (filter p xs)) (all_later r (filter p xs)) here below
      | false ↦ below
    ]

-- rows that are related as those that they are made of
all_related : {X : Type 0} (r : X → X → Bool) (f : X → X) → ((a b : X) → r (f a) (f b) ≡ r a b) → (x : X) (xs : List X) → list_all (r (f x)) (map f xs) ≡ list_all (r x) xs
all_related r f same x [] = refl
all_related {X} r f same x (y ∷ xs) = rw (same x y, all_related r f same x xs) refl

pub later_mapped : {X : Type 0} (r : X → X → Bool) (f : X → X) → ((a b : X) → r (f a) (f b) ≡ r a b) → (xs : List X) → all_later r (map f xs) ≡ all_later r xs
later_mapped r f same [] = refl
later_mapped {X} r f same (x ∷ xs) = rw (all_related r f same x xs, later_mapped r f same xs) refl

-- what is made of each passes a test where it is kept
pub made_kept : {X : Type 0} (q p r : X → Bool) (f : X → X) → ((x : X) → q x ≡ true → p (f x) ≡ true → r (f x) ≡ true) → (xs : List X) → list_all q xs ≡ true → list_all r (filter p (map f xs)) ≡ true
made_kept q p r f passes [] h = refl
made_kept {X} q p r f passes (x ∷ xs) h =
    let parts = and_parts (q x) (list_all q xs) h in
    let below = made_kept q p r f passes xs parts.1 in
    go (p (f x)) (passes x parts.0) below
  where
    go : (b : Bool) → (b ≡ true → r (f x) ≡ true) → list_all r (filter p (map f xs)) ≡ true → list_all r (cond b (f x ∷ filter p (map f xs)) (filter p (map f xs))) ≡ true
    go true one below = and_from (r (f x)) (list_all r (filter p (map f xs))) (one refl) below
    go false one below = below

-- fewer pass two tests than one
pub fewer : {X : Type 0} (p q : X → Bool) (xs : List X) → length (filter p (filter q xs)) ≤ length (filter p xs)
fewer p q [] = omega arith
fewer {X} p q (x ∷ xs) = go (fewer p q xs) (q x)
  where
    both : length (filter p (filter q xs)) ≤ length (filter p xs) → (c : Bool) → length (cond c (x ∷ filter p (filter q xs)) (filter p (filter q xs))) ≤ length (cond c (x ∷ filter p xs) (filter p xs))
    both less true = omega (arith, less)
    both less false = less

    one : length (filter p (filter q xs)) ≤ length (filter p xs) → (c : Bool) → length (filter p (filter q xs)) ≤ length (cond c (x ∷ filter p xs) (filter p xs))
    one less true = omega (arith, less)
    one less false = less

    go : length (filter p (filter q xs)) ≤ length (filter p xs) → (b : Bool) → length (filter p (cond b (x ∷ filter q xs) (filter q xs))) ≤ length (cond (p x) (x ∷ filter p xs) (filter p xs))
    go less true = both less (p x)
    go less false = one less (p x)

-- a list has what passes a test, and what doesn't
pub parted : {X : Type 0} (p : X → Bool) (xs : List X) → IsReordered xs (filter p xs ++ filter (λ x. not (p x)) xs)
parted p [] = refl
parted {X} p (x ∷ xs) = go (parted p xs) (p x)
  where
    go : IsReordered xs (filter p xs ++ filter (λ y. not (p y)) xs) → (b : Bool) → IsReordered (x ∷ xs) (cond b (x ∷ filter p xs) (filter p xs) ++ cond (not b) (x ∷ filter (λ y. not (p y)) xs) (filter (λ y. not (p y)) xs))
    go rest true = (filter p xs ++ filter (λ y. not (p y)) xs, record { before = []; after = filter p xs ++ filter (λ y. not (p y)) xs; was = refl; becomes = refl }, rest)
    go rest false = (filter p xs ++ filter (λ y. not (p y)) xs, record { before = filter p xs; after = filter (λ y. not (p y)) xs; was = refl; becomes = refl }, rest)

pub shorter : {X : Type 0} (p : X → Bool) (xs : List X) → length (filter p xs) ≤ length xs
shorter p [] = omega arith
shorter {X} p (x ∷ xs) = go (shorter p xs) (p x)
  where
    go : length (filter p xs) ≤ length xs → (b : Bool) → length (cond b (x ∷ filter p xs) (filter p xs)) ≤ length (x ∷ xs)
    go less true = omega (arith, less)
    go less false = omega (arith, less)
