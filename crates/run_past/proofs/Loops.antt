-- Lists that are gone through from the front, and what is told on the way.
use Rattle.std.proofs.Common.{◌≡◌, ℕ, ◌+◌, ◌<◌, ◌≤◌, Bool, true, false, ◌||◌, List, [], ◌∷◌, length, get_or, drop, Option, refl, sym, ap, subst, ◌∙◌, suc, arith}
use Rattle.std.proofs.Math.Seq.{drop-cons}
use Rattle.std.proofs.lemmas.List.{drop_all}
use Rattle.std.specs.List.{AllByRecursion, list_any}
use Rattle.run_past.specs.Told.{now_or}

-- an element more
pub from_place : {X : Type 0} (xs : List X) (i : ℕ) (x : X) → i < length xs → x ≡ get_or xs i x → drop i xs ≡ x ∷ drop (i + 1) xs
from_place xs i x h e = subst (λ (n : ℕ). drop i xs ≡ x ∷ drop n xs) (let one : suc i ≡ i + 1 = omega arith in one) (drop-cons xs i x h ∙ ap (λ y. y ∷ drop (suc i) xs) (sym e))

pub all_at : {X : Type 0} (P : X → Type 0) (xs : List X) (i : ℕ) (x : X) → i < length xs → x ≡ get_or xs i x → AllByRecursion P (drop i xs) → P x × AllByRecursion P (drop (i + 1) xs)
all_at P xs i x h e all = subst (AllByRecursion P) (from_place xs i x h e) all

pub all_from : {X : Type 0} (P : X → Type 0) (xs : List X) (i : ℕ) (x : X) → i < length xs → x ≡ get_or xs i x → P x → AllByRecursion P (drop (i + 1) xs) → AllByRecursion P (drop i xs)
all_from P xs i x h e here rest = subst (AllByRecursion P) (sym (from_place xs i x h e)) (here, rest)

pub all_end : {X : Type 0} (P : X → Type 0) (xs : List X) (i : ℕ) → length xs ≤ i → AllByRecursion P (drop i xs)
all_end P xs i h = subst (AllByRecursion P) (sym (drop_all i xs h)) tt

pub all_also : {X : Type 0} (P Q : X → Type 0) → ((x : X) → P x → Q x) → (xs : List X) → AllByRecursion P xs → AllByRecursion Q xs
all_also P Q up [] h = tt
all_also P Q up (x ∷ xs) h = (up x h.0, all_also P Q up xs h.1)

-- what is told twice
told_again : (b r : Bool) (n : ℕ) (t : Option ℕ) → now_or r n (now_or b n t) ≡ now_or (b || r) n t
told_again true true n t = refl
told_again true false n t = refl
told_again false r n t = refl

pub told_on : {X : Type 0} (f : X → Bool) (xs : List X) (i : ℕ) (x : X) (n : ℕ) (now new start : Option ℕ) → i < length xs → x ≡ get_or xs i x → new ≡ now_or (f x) n now
    → now_or (list_any f (drop i xs)) n now ≡ now_or (list_any f xs) n start → now_or (list_any f (drop (i + 1) xs)) n new ≡ now_or (list_any f xs) n start
told_on f xs i x n now new start h e tells inv =
    ap (now_or (list_any f (drop (i + 1) xs)) n) tells ∙ told_again (f x) (list_any f (drop (i + 1) xs)) n now ∙ ap (λ l. now_or (list_any f l) n now) (sym (from_place xs i x h e)) ∙ inv

pub told_end : {X : Type 0} (f : X → Bool) (xs : List X) (i : ℕ) (n : ℕ) (now start : Option ℕ) → length xs ≤ i → now_or (list_any f (drop i xs)) n now ≡ now_or (list_any f xs) n start → now ≡ now_or (list_any f xs) n start
told_end f xs i n now start h inv = ap (λ l. now_or (list_any f l) n now) (sym (drop_all i xs h)) ∙ inv
