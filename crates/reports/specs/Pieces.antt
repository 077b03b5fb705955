-- What printed lines are made of.
use Rattle.std.specs.Prelude.{ℕ, Bool, true, false, not, ◌==◌, ◌&&◌, nat_lt, if◌then◌else◌, List, [], ◌∷◌, ◌++◌, codes, decimal, Option, Some, None}
use Rattle.std.specs.List.{flat_map}
use Rattle.std.specs.Str.{byte}
use Rattle.hex.specs.Hex.{encode_lower, encode_upper}
use Rattle.kinds.specs.declared.segment.Digest.{Digest}

-- a printed line: the number of the script's line that causes it, a space, the text, LF
abbrev pub numbered : ℕ → List ℕ → List ℕ
numbered line text = decimal line ++ codes " " ++ text ++ codes "\n"

-- the printed lines of some rows, each by the text of its kind
abbrev pub rows_of : {A : Type 0} → (A → List ℕ) → ℕ → List A → List ℕ
rows_of text line rows = flat_map (λ row. numbered line (text row)) rows

-- a byte that stands for itself in a printed path: neither up to the blank, nor DEL, nor `%`
abbrev pub is_plain : ℕ → Bool
is_plain b = nat_lt 32 b && not (b == 127) && not (b == byte "%")

-- a byte of a printed path; one that doesn't stand for itself is `%` and two hexadecimal digits in upper case
abbrev pub escaped_byte : ℕ → List ℕ
escaped_byte b = if is_plain b then b ∷ [] else (codes "%" ++ encode_upper (b ∷ []))

-- a printed path or filespace name
abbrev pub escaped : List ℕ → List ℕ
escaped path = flat_map escaped_byte path

-- a digest's hexadecimal digits, in lower case
abbrev pub digits : Digest → List ℕ
digits d = encode_lower d.0

abbrev pub yes_or_no : Bool → List ℕ
yes_or_no true = codes "YES"
yes_or_no false = codes "NO"

-- a name, or `-` where there is none
abbrev pub or_dash : Option (List ℕ) → List ℕ
or_dash (Some name) = name
or_dash None = codes "-"

-- a number, or `-` where there is none
abbrev pub number_or_dash : Option ℕ → List ℕ
number_or_dash (Some n) = decimal n
number_or_dash None = codes "-"
