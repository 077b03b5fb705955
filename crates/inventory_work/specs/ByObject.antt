-- Lines in ascending order of the objects that they are of.
use Rattle.std.specs.Prelude.{ℕ, nat_le, List, [], ◌∷◌, if◌then◌else◌}

-- a line at its place among lines that ascend: in front of those of its object
abbrev pub put_line : {A : Type 0} → (A → ℕ) → A → List A → List A
put_line object line [] = line ∷ []
put_line object line (other ∷ lines) = if nat_le (object line) (object other) then line ∷ other ∷ lines else other ∷ put_line object line lines

-- the lines in ascending order of objects, those of one object in the order that they had
abbrev pub by_object : {A : Type 0} → (A → ℕ) → List A → List A
by_object object [] = []
by_object object (line ∷ lines) = put_line object line (by_object object lines)
