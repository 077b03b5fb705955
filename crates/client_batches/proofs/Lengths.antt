-- Lists that are made of the first lines.
use Rattle.std.proofs.Common.{◌≡◌, ◌≤◌, ◌<◌, ◌+◌, ℕ, List, [], ◌∷◌, ◌++◌, length, map, take, get_or, ap, refl, sym, ◌∙◌, arith}
use Rattle.std.proofs.lemmas.List.{length-map, length-take}
use Rattle.client_batches.proofs.Dropping.{taken_with}

-- there is room for one more
pub few_of : {A B : Type 0} (f : A → B) (items : List B) (lines : List A) (i : ℕ) → items ≡ map f (take i lines) → i < length lines → length lines ≤ 256 → length items < 256
few_of f items lines i h l r =
    let m : length items ≡ length (take i lines) = ap length h ∙ length-map (take i lines) f in
    omega (arith, length-take i lines)

map_end : {A B : Type 0} (f : A → B) (xs : List A) (x : A) → map f (xs ++ x ∷ []) ≡ map f xs ++ f x ∷ []
map_end f [] x = refl
map_end {A} {B} f (y ∷ xs) x = ap (λ (zs : List B). f y ∷ zs) (map_end f xs x)

-- one more
pub mapped_more : {A B : Type 0} (f : A → B) (items new : List B) (lines : List A) (i : ℕ) (x : A) (y : B) → new ≡ items ++ y ∷ [] → y ≡ f x → items ≡ map f (take i lines) → x ≡ get_or lines i x → i < length lines
    → new ≡ map f (take (i + 1) lines)
mapped_more {A} {B} f items new lines i x y put made so is l =
    put ∙ ap (λ (zs : List B). zs ++ y ∷ []) so ∙ ap (λ (z : B). map f (take i lines) ++ z ∷ []) made ∙ sym (map_end f (take i lines) x) ∙ ap (λ (ls : List A). map f ls) (sym (taken_with lines i x l is))
