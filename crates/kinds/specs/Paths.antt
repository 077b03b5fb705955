use Rattle.std.specs.Prelude.{ℕ, Bool, not, ◌==◌, ◌&&◌, nat_le, List, length, slice_index, Result, Ok, Err, if◌then◌else◌}
use Rattle.std.specs.List.{list_any}
use Rattle.std.specs.Str.{byte, is_utf8}
use Rattle.kinds.specs.declared.refusal.Refusal.{Refusal}
use Rattle.kinds.specs.declared.refusal.Refusal.TheVariants.{BadValue}

-- the bytes begin with a slash
abbrev pub is_rooted : List ℕ → Bool
is_rooted bytes = slice_index bytes 0 == byte "/"

-- no byte is 0
abbrev pub has_no_zero : List ℕ → Bool
has_no_zero bytes = not (list_any (λ b. b == 0) bytes)

-- a path: at most `most` bytes of UTF-8 that begin with a slash, none of them 0
abbrev pub is_path : ℕ → List ℕ → Bool
is_path most bytes = nat_le (length bytes) most && is_rooted bytes && has_no_zero bytes && is_utf8 bytes

-- what is read as a path: the bytes as they stand, where they are one
abbrev pub read_path : ℕ → List ℕ → Result (List ℕ) Refusal
read_path most bytes = if is_path most bytes then Ok bytes else Err (BadValue 0)
