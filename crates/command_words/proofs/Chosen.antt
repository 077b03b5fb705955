use Rattle.std.proofs.Common.{◌≡◌, ℕ, ◌+◌, ◌<◌, Bool, true, false, cond, ◌==◌, ◌&&◌, List, [], ◌∷◌, length, map, refl, ap, sym, ◌∙◌, Option, Some, None, Err, arith}
use Rattle.std.specs.Prelude.{count_by}
use Rattle.std.specs.Char.{to_ascii_uppercase}
use Rattle.std.specs.List.{position_from}
use Rattle.command_words.specs.Choice.{begins, is_whole, spelled, choice, choose}
use Rattle.std.proofs.lemmas.List.Sums.{sum_by-cons}
use Rattle.std.proofs.lemmas.Bool.{ne_eqb}
use Rattle.kinds.specs.declared.refusal.Refusal.TheVariants.{Ambiguous}

and_false : (b : Bool) → (b && false) ≡ false
and_false b = elim b as (λ b. (b && false) ≡ false) [ true ↦ refl | false ↦ refl ]

-- no option begins as a longer word does
pub begins_short : (option word : List ℕ) → length option < length word → begins option word ≡ false
begins_short option [] h = absurd (omega arith)
begins_short [] (b ∷ bs) h = refl
begins_short (o ∷ os) (b ∷ bs) h = ap (λ r. (o == to_ascii_uppercase b) && r) (begins_short os bs (omega arith)) ∙ and_false (o == to_ascii_uppercase b)

-- a test of what is shown
pub position_from-map : {A : Type 0} (f : A → List ℕ) (p : List ℕ → Bool) (i : ℕ) (xs : List A) → position_from (λ x. p (f x)) i xs ≡ position_from p i (map f xs)
position_from-map f p i [] = refl
position_from-map f p i (x ∷ xs) = rw (position_from-map f p (i + 1) xs) refl

pub count_by-map : {A : Type 0} (f : A → List ℕ) (p : List ℕ → Bool) (xs : List A) → count_by (λ x. p (f x)) xs ≡ count_by p (map f xs)
count_by-map f p [] = refl
count_by-map f p (x ∷ xs) =
    sum_by-cons (λ y. cond (p (f y)) 1 0) x xs ∙ ap (λ n. cond (p (f x)) 1 0 + n) (count_by-map f p xs) ∙ sym (sum_by-cons (λ y. cond (p y) 1 0) (f x) (map f xs))

-- the choice among what is shown is that among the words that are shown
pub chosen : {A : Type 0} (f : A → List ℕ) (xs : List A) (column : ℕ) (word w : List ℕ) (whole first : Option ℕ) (count : ℕ) → w ≡ spelled word → whole ≡ position_from (λ x. is_whole (f x) w) 0 xs → first ≡ position_from (λ x. begins (f x) w) 0 xs → count ≡ count_by (λ x. begins (f x) w) xs → choice column whole count first ≡ choose column word (map f xs)
chosen f xs column word w whole first count e p q r =
    rw (p, q, r, position_from-map f (λ o. is_whole o w) 0 xs, position_from-map f (λ o. begins o w) 0 xs, count_by-map f (λ o. begins o w) xs, e) refl

-- of several options none is chosen
pub not_single : (column count at : ℕ) → (count ≡ 1 → ⊥) → choice column None count (Some at) ≡ Err (Ambiguous column)
not_single column count at h = rw (ne_eqb count 1 h) refl
