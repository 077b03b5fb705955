-- The bytes of one record and of the gate behind it, as they are made before any device call.
use Rattle.std.specs.Prelude.{◌≡◌, ℕ, ◌-◌, List, [], ◌∷◌, ◌++◌, length, take, drop}
use Rattle.log_file.specs.Blocks.{Fits, block}

-- the record's own bytes: all but the gate, the length in four bytes, and the next gate
abbrev pub payload_of : List ℕ → List ℕ
payload_of bytes = take (length bytes - 6) (drop 5 bytes)

-- an open record that fits, and a closed gate behind it
pub record IsFrame (bytes : List ℕ) : Type 0 where
  pub fits : Fits (payload_of bytes)
  pub whole : bytes ≡ block (payload_of bytes) ++ 0 ∷ []

-- bytes without the last one
abbrev pub without_last : List ℕ → List ℕ
without_last bytes = take (length bytes - 1) bytes

-- the last byte is a closed gate
abbrev pub EndsClosed : List ℕ → Type 0
EndsClosed bytes = bytes ≡ without_last bytes ++ 0 ∷ []
