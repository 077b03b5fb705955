-- Lists: any two elements, elements that pass a test, and an element more at the end.
use Rattle.std.proofs.Common.{◌≡◌, ◌⊎◌, inl, inr, Bool, true, false, cond, List, [], ◌∷◌, ◌++◌, map, Option, None, Some, is_some, refl, sym, ap, subst, ◌∙◌}
use Rattle.std.specs.List.{AllByRecursion, Contains, filter, find, flat_map, list_all}
use Rattle.std.proofs.lemmas.Bool.{and_parts, false≢true}
use Rattle.inventory_rows.specs.version_groups.Entries.{all_later}
use Rattle.inventory_laws.proofs.Lists.{all_of, each_also}
use Rattle.inventory_laws.proofs.Origins.{contained_holds, each_contained}

-- ---- joined lists

pub each_appended : {A : Type 0} (P : A → Type 0) (xs ys : List A) → AllByRecursion P xs → AllByRecursion P ys → AllByRecursion P (xs ++ ys)
each_appended P [] ys a b = b
each_appended P (x ∷ xs) ys a b = (a.0, each_appended P xs ys a.1 b)

pub each_front : {A : Type 0} (P : A → Type 0) (xs ys : List A) → AllByRecursion P (xs ++ ys) → AllByRecursion P xs
each_front P [] ys h = tt
each_front P (x ∷ xs) ys h = (h.0, each_front P xs ys h.1)

pub each_back : {A : Type 0} (P : A → Type 0) (xs ys : List A) → AllByRecursion P (xs ++ ys) → AllByRecursion P ys
each_back P [] ys h = h
each_back P (x ∷ xs) ys h = each_back P xs ys h.1

pub each_flat : {A B : Type 0} (P : B → Type 0) (f : A → List B) (xs : List A) → AllByRecursion (λ x. AllByRecursion P (f x)) xs → AllByRecursion P (flat_map f xs)
each_flat P f [] h = tt
each_flat P f (x ∷ xs) h = each_appended P (f x) (flat_map f xs) h.0 (each_flat P f xs h.1)

pub each_of_flat : {A B : Type 0} (P : B → Type 0) (f : A → List B) (xs : List A) → AllByRecursion P (flat_map f xs) → AllByRecursion (λ x. AllByRecursion P (f x)) xs
each_of_flat P f [] h = tt
each_of_flat P f (x ∷ xs) h = (each_front P (f x) (flat_map f xs) h, each_of_flat P f xs (each_back P (f x) (flat_map f xs) h))

pub each_map : {A B : Type 0} (P : B → Type 0) (f : A → B) (xs : List A) → AllByRecursion (λ x. P (f x)) xs → AllByRecursion P (map f xs)
each_map P f [] h = tt
each_map P f (x ∷ xs) h = (h.0, each_map P f xs h.1)

-- each element of each part is one of the whole
pub each_in : {A B : Type 0} (f : A → List B) (xs : List A) → AllByRecursion (λ x. AllByRecursion (Contains (flat_map f xs)) (f x)) xs
each_in f xs = each_of_flat (Contains (flat_map f xs)) f xs (each_contained (flat_map f xs))

pub each_two : {A : Type 0} (P Q : A → Type 0) (xs : List A) → AllByRecursion P xs → AllByRecursion Q xs → AllByRecursion (λ x. P x × Q x) xs
each_two P Q [] a b = tt
each_two P Q (x ∷ xs) a b = ((a.0, b.0), each_two P Q xs a.1 b.1)

-- ---- elements that pass

pub each_passing : {A : Type 0} (P : A → Type 0) (q : A → Bool) (xs : List A) → AllByRecursion P xs → AllByRecursion (λ x. P x × (q x ≡ true)) (filter q xs)
each_passing P q [] h = tt
each_passing {A} P q (x ∷ xs) h = elim (q x) as (λ b. q x ≡ b → AllByRecursion (λ (y : A). P y × (q y ≡ true)) (cond b (x ∷ filter q xs) (filter q xs))) [
  | true ↦ λ is. ((h.0, is), each_passing P q xs h.1)
  | false ↦ λ is. each_passing P q xs h.1
] refl

-- what has P of those that pass
pub each_filtered : {A : Type 0} (P : A → Type 0) (q : A → Bool) (xs : List A) → AllByRecursion (λ x. q x ≡ true → P x) xs → AllByRecursion P (filter q xs)
each_filtered P q [] h = tt
each_filtered {A} P q (x ∷ xs) h = elim (q x) as (λ b. q x ≡ b → AllByRecursion P (cond b (x ∷ filter q xs) (filter q xs))) [
  | true ↦ λ is. (h.0 is, each_filtered P q xs h.1)
  | false ↦ λ is. each_filtered P q xs h.1
] refl

pub all_filtered : {A : Type 0} (P : A → Type 0) (q : A → Bool) (xs : List A) → AllByRecursion P (filter q xs) → AllByRecursion (λ x. q x ≡ true → P x) xs
all_filtered P q [] h = tt
all_filtered {A} P q (x ∷ xs) h = elim (q x) as (λ b. q x ≡ b → AllByRecursion P (cond b (x ∷ filter q xs) (filter q xs)) → (q x ≡ true → P x) × AllByRecursion (λ y. q y ≡ true → P y) xs) [
  | true ↦ λ is all. ((λ _. all.0), all_filtered P q xs all.1)
  | false ↦ λ is all. ((λ yes. absurd (false≢true (sym is ∙ yes))), all_filtered P q xs all)
] refl h

-- ---- two elements

-- they are one, or so related in one of two orders
abbrev pub Pair : {A : Type 0} → (A → A → Bool) → A → A → Type 0
Pair r a b = (a ≡ b) ⊎ ((r a b ≡ true) ⊎ (r b a ≡ true))

pair_turned : {A : Type 0} (r : A → A → Bool) (a b : A) → Pair r a b → Pair r b a
pair_turned r a b (inl same) = inl (sym same)
pair_turned r a b (inr (inl h)) = inr (inr h)
pair_turned r a b (inr (inr h)) = inr (inl h)

pub pairs : {A : Type 0} (r : A → A → Bool) (xs : List A) → all_later r xs ≡ true → AllByRecursion (λ a. AllByRecursion (Pair r a) xs) xs
pairs r [] h = tt
pairs {A} r (x ∷ xs) h =
    let parts = and_parts (list_all (r x) xs) (all_later r xs) h in
    let first : AllByRecursion (Pair r x) xs = each_also (λ y. r x y ≡ true) (Pair r x) xs (λ y is. inr (inl is)) (all_of (r x) xs parts.0) in (
      (inl refl, first),
      each_also (λ (a : A). Pair r x a × AllByRecursion (Pair r a) xs) (λ a. AllByRecursion (Pair r a) (x ∷ xs)) xs (λ a both. (pair_turned r x a both.0, both.1))
          (each_two (Pair r x) (λ a. AllByRecursion (Pair r a) xs) xs first (pairs r xs parts.1)),
    )

pub pair_of : {A : Type 0} (r : A → A → Bool) (xs : List A) (a b : A) → all_later r xs ≡ true → Contains xs a → Contains xs b → Pair r a b
pair_of r xs a b h ca cb = contained_holds (Pair r a) xs b cb (contained_holds (λ x. AllByRecursion (Pair r x) xs) xs a ca (pairs r xs h))

-- ---- what is found

pub found_passes : {A : Type 0} (P : A → Type 0) (q : A → Bool) (xs : List A) (x : A) → find q xs ≡ Some x → AllByRecursion P xs → P x × (q x ≡ true)
found_passes P q [] x at h = absurd cc
found_passes {A} P q (y ∷ xs) x at h = elim (q y) as (λ b. q y ≡ b → cond b (Some y) (find q xs) ≡ Some x → P x × (q x ≡ true)) [
  | true ↦ λ is s. let same : y ≡ x = cc in (subst P same h.0, subst (λ z. q z ≡ true) same is)
  | false ↦ λ is s. found_passes P q xs x s h.1
] refl at

pub none_found : {A : Type 0} (q : A → Bool) (xs : List A) → find q xs ≡ None → AllByRecursion (λ x. q x ≡ false) xs
none_found q [] h = tt
none_found {A} q (x ∷ xs) h = elim (q x) as (λ b. q x ≡ b → cond b (Some x) (find q xs) ≡ None → (q x ≡ false) × AllByRecursion (λ y. q y ≡ false) xs) [
  | true ↦ λ is s. absurd cc
  | false ↦ λ is s. (is, none_found q xs s)
] refl h

-- the elements that have P where none passes
pub find_none : {A : Type 0} (q : A → Bool) (xs : List A) → AllByRecursion (λ x. q x ≡ false) xs → find q xs ≡ None
find_none q [] h = refl
find_none q (x ∷ xs) h = ap (λ b. cond b (Some x) (find q xs)) h.0 ∙ find_none q xs h.1

pub some_or_none : {A : Type 0} (o : Option A) → ((x : A) × (o ≡ Some x)) ⊎ (o ≡ None)
some_or_none None = inr refl
some_or_none (Some x) = inl (x, refl)

pub is_there : {A : Type 0} (o : Option A) (x : A) → o ≡ Some x → is_some o ≡ true
is_there o x h = ap is_some h

pub none_is : {A : Type 0} (o : Option A) → is_some o ≡ false → o ≡ None
none_is None h = refl
none_is (Some x) h = absurd (false≢true (sym h))
