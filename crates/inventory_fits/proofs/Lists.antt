-- Tests of all elements of a list, of its parts, and of each element with those behind it.
use Rattle.std.proofs.Common.{◌≡◌, Bool, true, false, not, cond, ◌&&◌, List, [], ◌∷◌, ◌++◌, filter, refl, sym, ap, ◌∙◌}
use Rattle.std.specs.List.{list_all, flat_map}
use Rattle.std.proofs.lemmas.List.Folds.{list_all-append}
use Rattle.inventory_rows.specs.version_groups.Entries.{all_later}
use Rattle.inventory_laws.proofs.Facts.{first, rest, both}
use Rattle.inventory_fits.specs.Fitting.{all_lead, lead}

-- what each element passes, each passes that follows from it
pub all_weaker : {X : Type 0} (p q : X → Bool) → ((x : X) → p x ≡ true → q x ≡ true) → (xs : List X) → list_all p xs ≡ true → list_all q xs ≡ true
all_weaker p q f [] h = refl
all_weaker p q f (x ∷ xs) h = both (q x) (list_all q xs) (f x (first (p x) (list_all p xs) h)) (all_weaker p q f xs (rest (p x) (list_all p xs) h))

pub all_kept : {X : Type 0} (p t : X → Bool) (xs : List X) → list_all p xs ≡ true → list_all p (filter t xs) ≡ true
all_kept p t [] h = refl
all_kept {X} p t (x ∷ xs) h =
    elim (t x) as (λ b. list_all p (cond b (x ∷ filter t xs) (filter t xs)) ≡ true) [
      | true ↦ both (p x) (list_all p (filter t xs)) (first (p x) (list_all p xs) h) (all_kept p t xs (rest (p x) (list_all p xs) h))
      | false ↦ all_kept p t xs (rest (p x) (list_all p xs) h)
    ]

pub later_kept : {X : Type 0} (r : X → X → Bool) (t : X → Bool) (xs : List X) → all_later r xs ≡ true → all_later r (filter t xs) ≡ true
later_kept r t [] h = refl
later_kept r t (x ∷ xs) h =
    elim (t x) as (λ b. all_later r (cond b (x ∷ filter t xs) (filter t xs)) ≡ true) [
      | true ↦ both (list_all (r x) (filter t xs)) (all_later r (filter t xs)) (all_kept (r x) t xs (first (list_all (r x) xs) (all_later r xs) h)) (later_kept r t xs (rest (list_all (r x) xs) (all_later r xs) h))
      | false ↦ later_kept r t xs (rest (list_all (r x) xs) (all_later r xs) h)
    ]

-- each that is kept by a test passes what follows from it
pub kept_pass : {X : Type 0} (p t : X → Bool) → ((x : X) → t x ≡ true → p x ≡ true) → (xs : List X) → list_all p (filter t xs) ≡ true
kept_pass p t f [] = refl
kept_pass p t f (x ∷ xs) =
    elim (t x) as (λ b. t x ≡ b → list_all p (cond b (x ∷ filter t xs) (filter t xs)) ≡ true) [
      | true ↦ λ e. both (p x) (list_all p (filter t xs)) (f x e) (kept_pass p t f xs)
      | false ↦ λ e. kept_pass p t f xs
    ] refl

-- those that a test keeps and those that another does, of which just one keeps each
pub in_two_parts : {X : Type 0} (p s t : X → Bool) → ((x : X) → s x ≡ not (t x)) → (xs : List X) → (list_all p (filter s xs) && list_all p (filter t xs)) ≡ list_all p xs
in_two_parts p s t other [] = refl
in_two_parts p s t other (x ∷ xs) =
    ap (λ b. list_all p (cond b (x ∷ filter s xs) (filter s xs)) && list_all p (filter t (x ∷ xs))) (other x)
    ∙ elim (t x) as (λ b. (list_all p (cond (not b) (x ∷ filter s xs) (filter s xs)) && list_all p (cond b (x ∷ filter t xs) (filter t xs))) ≡ (p x && list_all p xs)) [
      | true ↦ swapped (p x) (list_all p (filter s xs)) (list_all p (filter t xs)) ∙ ap (λ b. p x && b) (in_two_parts p s t other xs)
      | false ↦ grouped (p x) (list_all p (filter s xs)) (list_all p (filter t xs)) ∙ ap (λ b. p x && b) (in_two_parts p s t other xs)
    ] where
      swapped : (a b c : Bool) → (b && (a && c)) ≡ (a && (b && c))
      swapped true b c = refl
      swapped false true c = refl
      swapped false false c = refl

      grouped : (a b c : Bool) → ((a && b) && c) ≡ (a && (b && c))
      grouped true b c = refl
      grouped false b c = refl

-- each is so related to the last
pub related_to_last : {X : Type 0} (r : X → X → Bool) (xs : List X) (e : X) → all_later r (xs ++ e ∷ []) ≡ true → list_all (λ x. r x e) xs ≡ true
related_to_last r [] e h = refl
related_to_last r (x ∷ xs) e h =
    let here : list_all (r x) (xs ++ e ∷ []) ≡ true = first (list_all (r x) (xs ++ e ∷ [])) (all_later r (xs ++ e ∷ [])) h in
    let last : list_all (r x) (e ∷ []) ≡ true = rest (list_all (r x) xs) (list_all (r x) (e ∷ [])) (sym (list_all-append (r x) xs (e ∷ [])) ∙ here) in
    both (r x e) (list_all (λ y. r y e) xs) (first (r x e) true last) (related_to_last r xs e (rest (list_all (r x) (xs ++ e ∷ [])) (all_later r (xs ++ e ∷ [])) h))

-- one list behind another: the first ones are related to those behind them, and so are the others
pub later_append : {X : Type 0} (r : X → X → Bool) (xs ys : List X) → all_later r (xs ++ ys) ≡ (lead r xs ys && all_later r ys)
later_append r [] ys = refl
later_append r (x ∷ xs) ys =
    ap (λ b. b && all_later r (xs ++ ys)) (list_all-append (r x) xs ys) ∙ ap (λ b. (list_all (r x) xs && list_all (r x) ys) && b) (later_append r xs ys)
    ∙ joined (list_all (r x) xs && list_all (r x) ys) (lead r xs ys) (all_later r ys)
  where
    joined : (a b c : Bool) → (a && (b && c)) ≡ ((a && b) && c)
    joined true b c = refl
    joined false b c = refl

pub all_lead_later : {X S : Type 0} (r : S → S → Bool) (f : X → List S) (items : List X) → all_lead r f items ≡ all_later r (flat_map f items)
all_lead_later r f [] = refl
all_lead_later r f (x ∷ items) = ap (λ b. lead r (f x) (flat_map f items) && b) (all_lead_later r f items) ∙ sym (later_append r (f x) (flat_map f items))

-- tests that are the same everywhere
pub same_all : {X : Type 0} (p q : X → Bool) → ((x : X) → p x ≡ q x) → (xs : List X) → list_all p xs ≡ list_all q xs
same_all p q same [] = refl
same_all p q same (x ∷ xs) = ap (λ b. b && list_all p xs) (same x) ∙ ap (λ b. q x && b) (same_all p q same xs)
