-- Lists of rows, and one entry of a map that changes, where the map is seen as its entries in the order of their keys.
use Rattle.std.specs.Prelude.{Bool, true, false, ◌&&◌, List, [], ◌∷◌, Option, Some, None, Result, Ok, Err}
use Rattle.std.specs.List.{list_all}
use Rattle.std.specs.Map.{lookup, set_value}
use Rattle.kinds.specs.declared.refusal.Refusal.{Refusal}
use Rattle.kinds.specs.declared.refusal.Refusal.TheVariants.{NotFound}

-- a function of what an answer gives, where it isn't a refusal
abbrev pub on_ok : {A B : Type 0} → (A → B) → Result A Refusal → Result B Refusal
on_ok f (Ok x) = Ok (f x)
on_ok f (Err e) = Err e

-- a change that may be refused, of something that has to be there
abbrev pub if_found : {A B : Type 0} → Option A → (A → Result B Refusal) → Result B Refusal
if_found None change = Err NotFound
if_found (Some x) change = change x

-- the entries after the value at the key that passes the test is changed; it has to be there
abbrev pub changed_at : {K X : Type 0} → (K → Bool) → (X → Result X Refusal) → List (K × X) → Result (List (K × X)) Refusal
changed_at test change entries = if_found (lookup test entries) (λ x. on_ok (set_value test entries) (change x))

-- each row is so related to each later one
abbrev pub all_later : {X : Type 0} → (X → X → Bool) → List X → Bool
all_later r [] = true
all_later r (x ∷ rows) = list_all (r x) rows && all_later r rows

abbrev pub is_nil : {X : Type 0} → List X → Bool
is_nil [] = true
is_nil (x ∷ rows) = false
