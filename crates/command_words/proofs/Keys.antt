use Rattle.std.proofs.Common.{◌≡◌, ℕ, zero, suc, ◌<◌, Bool, true, false, ◌==◌, List, [], ◌∷◌, length, map, get_or, refl, sym, subst, arith, Some, Result, Ok, Err}
use Rattle.std.specs.Prelude.{slice_get}
use Rattle.std.specs.Borrow.{Bor}
use Rattle.std.proofs.lemmas.Simd.{map-map}
use Rattle.kinds.specs.declared.refusal.Refusal.{Refusal}
use Rattle.command_words.specs.declared.value.Kind.{Kind}
use Rattle.command_words.specs.declared.row.Need.{Need}
use Rattle.command_words.specs.Choice.{choose}
use Rattle.command_words.specs.Reading.{Says}
use Rattle.command_words.specs.Values.{unquoted, valued}
use Rattle.command_words.specs.Words.{word_view}
use Rattle.command_words.specs.Rows.{Place, Slot, Given, slot_view, given_view, key_value, slot_value, is_for_place, place_taken}

-- what is shown of the element at an index
pub get_map : {A B : Type 0} (f : A → B) (xs : List A) (at : ℕ) (d : A) → at < length xs → slice_get (map f xs) at ≡ Some (f (get_or xs at d))
get_map f [] at d h = absurd (omega arith)
get_map f (x ∷ xs) zero d h = refl
get_map f (x ∷ xs) (suc at) d h = get_map f xs at d (omega arith)

-- a keyword that is refused by its name
pub key_refused : (slots : List (Bor (List ℕ) × Kind × Bor (List (Bor (List ℕ))) × Need)) (given : List Given) (column : ℕ) (key value : List ℕ) (e : Refusal) → (length key == 0) ≡ false → Err e ≡ choose column key (map (λ s. s.0.now) slots) → key_value (map slot_view slots) given column key value ≡ Err e
key_refused slots given column key value e named found =
    let said : choose column key (map (λ (s : Slot). s.key) (map slot_view slots)) ≡ Err e = rw (map-map (λ (s : Slot). s.key) slot_view slots) (sym found) in
    rw (named, said) refl

-- a keyword that is chosen by its name
pub key_chosen : (slots : List (Bor (List ℕ) × Kind × Bor (List (Bor (List ℕ))) × Need)) (given : List Given) (column : ℕ) (key value : List ℕ) (at : ℕ) (d : Bor (List ℕ) × Kind × Bor (List (Bor (List ℕ))) × Need) → (length key == 0) ≡ false → Ok at ≡ choose column key (map (λ s. s.0.now) slots) → at < length slots → key_value (map slot_view slots) given column key value ≡ slot_value (map slot_view slots) given column value at (slot_view (get_or slots at d))
key_chosen slots given column key value at d named found within =
    let said : choose column key (map (λ (s : Slot). s.key) (map slot_view slots)) ≡ Ok at = rw (map-map (λ (s : Slot). s.key) slot_view slots) (sym found) in
    rw (named, said, get_map slot_view slots at d within) refl

-- a keyword that is chosen by its name has the value that is said of it
pub key_said : (slots : List (Bor (List ℕ) × Kind × Bor (List (Bor (List ℕ))) × Need)) (given : List Given) (column : ℕ) (key value : List ℕ) (at : ℕ) (d : Bor (List ℕ) × Kind × Bor (List (Bor (List ℕ))) × Need) (r : Result (ℕ × Bor (List ℕ)) Refusal) → (length key == 0) ≡ false → Ok at ≡ choose column key (map (λ s. s.0.now) slots) → at < length slots → Says given_view r (slot_value (map slot_view slots) given column value at (slot_view (get_or slots at d))) → Says given_view r (key_value (map slot_view slots) given column key value)
key_said slots given column key value at d r named found within said =
    subst (λ (s : Result Given Refusal). Says given_view r s) (sym (key_chosen slots given column key value at d named found within)) said

-- a place is refused where the word that stands there is
pub place_refused : (p : Place) (end at : ℕ) (given : List Given) (ws : List (ℕ × Bor (List ℕ) × Bool)) (d : ℕ × Bor (List ℕ) × Bool) (e : Refusal) (text : List ℕ) → 0 < length ws → true ≡ is_for_place p (get_or ws 0 d).1.now → text ≡ unquoted (get_or ws 0 d).1.now → valued p.kind p.words (get_or ws 0 d).0 text ≡ Err e → place_taken p end at given (map word_view ws) ≡ Err e
place_refused p end at given [] d e text h taken bare refused = absurd (omega arith)
place_refused p end at given (w ∷ ws) d e text h taken bare refused = rw (sym taken, sym bare, refused) refl
