use Rattle.std.specs.Prelude.{ℕ, Bool, ◌&&◌, nat_le, List, length, Result, Ok, Err, if◌then◌else◌}
use Rattle.std.specs.Str.{is_utf8}
use Rattle.kinds.specs.declared.refusal.Refusal.{Refusal}
use Rattle.kinds.specs.declared.refusal.Refusal.TheVariants.{BadValue}

-- a text: at most 255 bytes of UTF-8
abbrev pub is_text : List ℕ → Bool
is_text bytes = nat_le (length bytes) 255 && is_utf8 bytes

-- what is read as a text: the bytes as they stand, where they are one
abbrev pub read_text : List ℕ → Result (List ℕ) Refusal
read_text bytes = if is_text bytes then Ok bytes else Err (BadValue 0)
