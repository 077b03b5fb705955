-- How lists of rows are written.
use Rattle.std.specs.Prelude.{ℕ, suc, ◌≡◌, Bool, true, false, List, [], ◌∷◌, ◌++◌, Result, Ok, Err}
use Rattle.kinds.specs.declared.refusal.Refusal.{Refusal}
use Rattle.kinds.specs.declared.refusal.Refusal.TheVariants.{Memory}

-- one line, where the test holds
abbrev pub only : {A : Type 0} → Bool → A → List A
only true line = line ∷ []
only false line = []

-- rows are written behind those that were there, or memory is wanted
abbrev pub Writes : {A : Type 0} → Result (Unit {0}) Refusal → List A → List A → List A → Type 0
Writes (Ok _) old new more = new ≡ old ++ more
Writes (Err e) old new more = e ≡ Memory

-- the lines of each of some rows, by the row's place
abbrev pub flat_from : {A B : Type 0} → (ℕ → A → List B) → ℕ → List A → List B
flat_from lines place [] = []
flat_from lines place (row ∷ rows) = lines place row ++ flat_from lines (suc place) rows
