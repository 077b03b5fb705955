-- How long a script may be: each of its lines has fewer than 4,096 bytes, and there are fewer than 2^20 lines.
use Rattle.std.specs.Prelude.{ℕ, ◌+◌, ◌^◌, ◌==◌, ◌||◌, nat_le, if◌then◌else◌, List, [], ◌∷◌, length, Option, None, Some}
use Rattle.std.specs.List.{slice_split}

-- The line with this number is too long, or the last one that is taken. Its bytes are those before its LF, a CR among them.
abbrev pub is_excess : ℕ → List ℕ → Option ℕ → Option ℕ
is_excess n part others = if nat_le 4096 (length part) || (n == 2 ^ 20) then Some n else others

-- The first line at which the limit is reached, where the parts between LFs are these and the first is line n. What stands
-- after the last LF is a line only where it isn't empty.
abbrev pub excess_of_parts : ℕ → List (List ℕ) → Option ℕ
excess_of_parts n [] = None
excess_of_parts n (part ∷ []) = if length part == 0 then None else is_excess n part None
excess_of_parts n (part ∷ next ∷ parts) = is_excess n part (excess_of_parts (n + 1) (next ∷ parts))

-- the same of a text whose first line is line n
abbrev pub excess_from : ℕ → List ℕ → Option ℕ
excess_from n text = excess_of_parts n (slice_split (λ b. b == 10) text)

-- The number of the first line that reaches the limit: one of 4,096 bytes or more, or line 2^20. None where none does.
abbrev pub first_excess : List ℕ → Option ℕ
first_excess script = excess_from 1 script
