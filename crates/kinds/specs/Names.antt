use Rattle.std.specs.Prelude.{ℕ, Bool, ◌==◌, ◌&&◌, ◌||◌, nat_lt, nat_le, List, length, Result, Ok, Err, if◌then◌else◌, nat_eq}
use Rattle.std.specs.Char.{is_ascii_digit, is_ascii_uppercase}
use Rattle.std.specs.List.{list_all}
use Rattle.std.specs.Str.{byte, str_to_ascii_uppercase}
use Rattle.std.specs.Cmp.Lexicographic.{pointwise}
use Rattle.kinds.specs.declared.refusal.Refusal.{Refusal}
use Rattle.kinds.specs.declared.refusal.Refusal.TheVariants.{BadValue}

-- a byte that may stand in a name: an upper-case letter, a digit, or one of _ . - + &
abbrev pub is_name_byte : ℕ → Bool
is_name_byte b = is_ascii_uppercase b || is_ascii_digit b || b == byte "_" || b == byte "." || b == byte "-" || b == byte "+" || b == byte "&"

-- there are 1 to `most` bytes
abbrev pub is_within : ℕ → List ℕ → Bool
is_within most bytes = nat_lt 0 (length bytes) && nat_le (length bytes) most

-- a name: 1 to `most` bytes that may stand in one
abbrev pub is_name : ℕ → List ℕ → Bool
is_name most bytes = is_within most bytes && list_all is_name_byte bytes

-- what is read as a name: the bytes in upper case, where these are one
abbrev pub read_name : ℕ → List ℕ → Result (List ℕ) Refusal
read_name most bytes =
    if is_name most (str_to_ascii_uppercase bytes) then Ok (str_to_ascii_uppercase bytes) else Err (BadValue 0)

-- two names are the same bytes
abbrev pub is_same_name : List ℕ → List ℕ → Bool
is_same_name a b = pointwise nat_eq a b
