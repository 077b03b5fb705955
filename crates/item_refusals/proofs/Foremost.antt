-- The refusal that is answered of several lists of causes.
use Rattle.std.proofs.Common.{◌≡◌, ℕ, Bool, append_assoc, ◌+◌, ◌<◌, ◌≤◌, List, [], ◌∷◌, ◌++◌, length, get_or, take, Option, Some, refl, sym, ap, ◌∙◌}
use Rattle.std.specs.List.{flat_map}
use Rattle.std.proofs.lemmas.Grind.{flat_map-append}
use Rattle.std.proofs.lemmas.List.{take_more, take_all, append-nil}
use Rattle.kinds.specs.declared.refusal.Refusal.{Refusal}
use Rattle.kinds.specs.Refusals.{sooner_of, foremost, unless, bad_value}
use Rattle.kinds.proofs.Order.{sooner_of-assoc}

pub foremost_append : (xs ys : List Refusal) → foremost (xs ++ ys) ≡ sooner_of (foremost xs) (foremost ys)
foremost_append [] ys = refl
foremost_append (x ∷ xs) ys = ap (sooner_of (Some x)) (foremost_append xs ys) ∙ sym (sooner_of-assoc (Some x) (foremost xs) (foremost ys))

-- one item more
pub foremost_more : {X : Type 0} (once : List Refusal) (f : X → List Refusal) (items : List X) (i : ℕ) (d : X) (found new : Option Refusal) → i < length items
    → found ≡ foremost (once ++ flat_map f (take i items)) → new ≡ sooner_of found (foremost (f (get_or items i d))) → new ≡ foremost (once ++ flat_map f (take (i + 1) items))
foremost_more once f items i d found new l so h =
    let item : List Refusal = f (get_or items i d) in
    let before : List Refusal = flat_map f (take i items) in
    let one : flat_map f (get_or items i d ∷ []) ≡ item = append-nil item in
    h
    ∙ ap (λ o. sooner_of o (foremost item)) so
    ∙ sym (foremost_append (once ++ before) item)
    ∙ ap foremost (append_assoc once before item)
    ∙ ap (λ es. foremost (once ++ (before ++ es))) (sym one)
    ∙ ap (λ es. foremost (once ++ es)) (sym (flat_map-append f (take i items) (get_or items i d ∷ [])))
    ∙ ap (λ xs. foremost (once ++ flat_map f xs)) (sym (take_more items i d l))

-- the same of an item that a loop reads
pub foremost_next : {X : Type 0} (once : List Refusal) (f : X → List Refusal) (items : List X) (i : ℕ) (item : X) (found new : Option Refusal) → i < length items → item ≡ get_or items i item
    → found ≡ foremost (once ++ flat_map f (take i items)) → new ≡ sooner_of found (foremost (f item)) → new ≡ foremost (once ++ flat_map f (take (i + 1) items))
foremost_next once f items i item found new l is so h = foremost_more once f items i item found new l so (h ∙ ap (λ x. sooner_of found (foremost (f x))) is)

-- no item is left
pub foremost_done : {X : Type 0} (once : List Refusal) (f : X → List Refusal) (items : List X) (i : ℕ) (found : Option Refusal) → length items ≤ i
    → found ≡ foremost (once ++ flat_map f (take i items)) → found ≡ foremost (once ++ flat_map f items)
foremost_done once f items i found l h = h ∙ ap (λ xs. foremost (once ++ flat_map f xs)) (take_all i items l)

-- before the first item: things are named once, said of the items and of what they name
pub foremost_first : (apart once : Bool) (found : Option Refusal) → once ≡ apart → found ≡ foremost (unless apart bad_value) → found ≡ foremost (unless once bad_value ++ [])
foremost_first apart once found same h = h ∙ ap (λ b. foremost (unless b bad_value)) (sym same) ∙ ap foremost (sym (append-nil (unless once bad_value)))

-- a test of a list, and what its items give
pub foremost_joined : (apart once : Bool) (causes : List Refusal) (first second answer : Option Refusal) → once ≡ apart → first ≡ foremost (unless apart bad_value) → second ≡ foremost causes
    → answer ≡ sooner_of first second → answer ≡ foremost (unless once bad_value ++ causes)
foremost_joined apart once causes first second answer same a b h =
    h ∙ ap (λ o. sooner_of o second) (a ∙ ap (λ t. foremost (unless t bad_value)) (sym same)) ∙ ap (sooner_of (foremost (unless once bad_value))) b ∙ sym (foremost_append (unless once bad_value) causes)
