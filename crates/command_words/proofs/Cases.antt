use Rattle.std.proofs.Common.{◌≡◌, ℕ, ◌+◌, Bool, true, false, cond, List, [], ◌∷◌, length, refl, ap, sym, ◌∙◌}
use Rattle.std.specs.Prelude.{count_by, codes}
use Rattle.std.specs.Char.{to_ascii_uppercase}
use Rattle.std.specs.List.{position_from}
use Rattle.std.specs.Str.{str_to_ascii_uppercase}
use Rattle.std.proofs.lemmas.List.Sums.{sum_by-cons}
use Rattle.std.proofs.lemmas.List.{length-map}
use Rattle.command_words.specs.Choice.{begins, is_whole, spelled, choose}

-- words that differ in case alone begin the same options
pub begins_case : (option a b : List ℕ) → str_to_ascii_uppercase a ≡ str_to_ascii_uppercase b → begins option a ≡ begins option b
begins_case option [] [] h = refl
begins_case option [] (y ∷ b) h = cc
begins_case option (x ∷ a) [] h = cc
begins_case [] (x ∷ a) (y ∷ b) h = refl
begins_case (o ∷ os) (x ∷ a) (y ∷ b) h =
    let head : to_ascii_uppercase x ≡ to_ascii_uppercase y = cc in
    let tail : str_to_ascii_uppercase a ≡ str_to_ascii_uppercase b = cc in
    rw (head, begins_case os a b tail) refl

length_case : (a b : List ℕ) → str_to_ascii_uppercase a ≡ str_to_ascii_uppercase b → length a ≡ length b
length_case a b h = sym (length-map a to_ascii_uppercase) ∙ ap length h ∙ length-map b to_ascii_uppercase

whole_case : (option a b : List ℕ) → str_to_ascii_uppercase a ≡ str_to_ascii_uppercase b → is_whole option a ≡ is_whole option b
whole_case option a b h = rw (length_case a b h, begins_case option a b h) refl

spelled_case : (a b : List ℕ) → str_to_ascii_uppercase a ≡ str_to_ascii_uppercase b → str_to_ascii_uppercase (spelled a) ≡ str_to_ascii_uppercase (spelled b)
spelled_case a b h =
    rw (whole_case (codes "VOL") a b h) (elim (is_whole (codes "VOL") b) as (λ v. str_to_ascii_uppercase (cond v (codes "VOLUME") a) ≡ str_to_ascii_uppercase (cond v (codes "VOLUME") b)) [ true ↦ refl | false ↦ h ])

position_same : (p q : List ℕ → Bool) → ((o : List ℕ) → p o ≡ q o) → (i : ℕ) (xs : List (List ℕ)) → position_from p i xs ≡ position_from q i xs
position_same p q e i [] = refl
position_same p q e i (x ∷ xs) = rw (e x, position_same p q e (i + 1) xs) refl

count_same : (p q : List ℕ → Bool) → ((o : List ℕ) → p o ≡ q o) → (xs : List (List ℕ)) → count_by p xs ≡ count_by q xs
count_same p q e [] = refl
count_same p q e (x ∷ xs) =
    sum_by-cons (λ o. cond (p o) 1 0) x xs ∙ ap (λ n. cond (p x) 1 0 + n) (count_same p q e xs) ∙ ap (λ b. cond b 1 0 + count_by q xs) (e x) ∙ sym (sum_by-cons (λ o. cond (q o) 1 0) x xs)

-- words that differ in case alone choose the same option
pub choose_case : (column : ℕ) (a b : List ℕ) (options : List (List ℕ)) → str_to_ascii_uppercase a ≡ str_to_ascii_uppercase b → choose column a options ≡ choose column b options
choose_case column a b options h =
    let s = spelled_case a b h in
    let whole = position_same (λ o. is_whole o (spelled a)) (λ o. is_whole o (spelled b)) (λ o. whole_case o (spelled a) (spelled b) s) 0 options in
    let first = position_same (λ o. begins o (spelled a)) (λ o. begins o (spelled b)) (λ o. begins_case o (spelled a) (spelled b) s) 0 options in
    let count = count_same (λ o. begins o (spelled a)) (λ o. begins o (spelled b)) (λ o. begins_case o (spelled a) (spelled b) s) options in
    rw (whole, first, count) refl
