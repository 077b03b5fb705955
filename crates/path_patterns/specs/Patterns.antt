-- Patterns of paths, and which paths they match.
use Rattle.std.specs.Prelude.{ℕ, Bool, false, not, IsTrue, ◌==◌, ◌&&◌, ◌||◌, nat_le, nat_lt, List, [], ◌∷◌, length, codes, slice_index, Result, Ok, Err, if◌then◌else◌}
use Rattle.kinds.specs.declared.refusal.Refusal.{Refusal}
use Rattle.kinds.specs.declared.refusal.Refusal.TheVariants.{BadValue}
use Rattle.std.specs.Str.{byte, bytes_eq}
use Rattle.path_patterns.specs.Pieces.{Matches, is_matched}

-- a pattern has 1 to 1,024 bytes, and begins with a slash
abbrev pub is_pattern : List ℕ → Bool
is_pattern bytes = slice_index bytes 0 == byte "/" && nat_le (length bytes) 1024

-- what is read as a pattern: the bytes as they stand, where they are one
abbrev pub read_pattern : List ℕ → Result (List ℕ) Refusal
read_pattern bytes = if is_pattern bytes then Ok bytes else Err (BadValue 0)

-- a byte put in front of the first of some pieces
abbrev pub glued : ℕ → List (List ℕ) → List (List ℕ)
glued b [] = (b ∷ []) ∷ []
glued b (first ∷ rest) = (b ∷ first) ∷ rest

-- the parts of a pattern or a path: what stands before, between and behind its slashes
unfoldable pub parts : List ℕ → List (List ℕ)
parts [] = [] ∷ []
parts (b ∷ bytes) = if b == byte "/" then [] ∷ parts bytes else glued b (parts bytes)

-- a byte that goes on with a character of UTF-8: its two highest bits are 10
abbrev pub is_continuation : ℕ → Bool
is_continuation b = nat_le 128 b && nat_lt b 192

-- the bytes begin inside a character
abbrev pub continues : List ℕ → Bool
continues [] = false
continues (b ∷ bytes) = is_continuation b

-- the characters of a part: each is a byte with those that go on with it
unfoldable pub characters : List ℕ → List (List ℕ)
characters [] = []
characters (b ∷ bytes) = if continues bytes then glued b (characters bytes) else (b ∷ []) ∷ characters bytes

-- the star matches zero or more characters of a part
abbrev pub is_star : List ℕ → Bool
is_star piece = bytes_eq piece (codes "*")

-- the question mark matches one character, and any other character itself
abbrev pub fits_character : List ℕ → List ℕ → Bool
fits_character piece character = bytes_eq piece (codes "?") || bytes_eq piece character

-- three dots match zero or more parts of a path
abbrev pub is_dots : List ℕ → Bool
is_dots part = bytes_eq part (codes "...")

-- a part of a pattern matches a part of a path
abbrev pub MatchesPart : List ℕ → List ℕ → Type 0
MatchesPart part of_path = Matches is_star (λ piece character. IsTrue (fits_character piece character)) (characters part) (characters of_path)

-- a pattern matches a path: its parts match those of the path, in order
abbrev pub MatchesPath : List ℕ → List ℕ → Type 0
MatchesPath pattern path = Matches is_dots MatchesPart (parts pattern) (parts path)

-- the same as tests
abbrev pub fits_part : List ℕ → List ℕ → Bool
fits_part part of_path = is_matched is_star fits_character (characters part) (characters of_path)

abbrev pub is_match : List ℕ → List ℕ → Bool
is_match pattern path = is_matched is_dots fits_part (parts pattern) (parts path)

-- the parts that are left behind one: none at the end, else those behind its slash
abbrev pub parts_left : List ℕ → List (List ℕ)
parts_left [] = []
parts_left (b ∷ bytes) = parts bytes

-- something stands before the first slash
abbrev pub begins_inside_part : List ℕ → Bool
begins_inside_part [] = false
begins_inside_part (b ∷ bytes) = not (b == byte "/")
