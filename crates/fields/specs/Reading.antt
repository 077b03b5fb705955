-- What reading a field from the front of some bytes gives: the value and the bytes after it, or nothing where too few are left.
use Rattle.std.specs.Prelude.{◌≡◌, ℕ, ◌+◌, List, [], ◌∷◌, length, take, drop, Option, Some, None, Result, Ok, Err, nat_lt, if◌then◌else◌}
use Rattle.std.specs.Int.{Width, w16, byte_len, from_be_bytes}
use Rattle.fields.specs.declared.errors.Short.{Short}

-- where a reader is, counted in bytes from its start, and the bytes that are left
pub record Cursor : Type 0 where
  pub at : ℕ
  pub rest : List ℕ

-- reading goes on with what was read before and the bytes after it
infixl 10 ◌>>=◌
abbrev pub ◌>>=◌ : {A B : Type 0} → Option A → (A → Option B) → Option B
(Some x) >>= f = f x
None >>= f = None

-- one byte
abbrev pub u8_at : List ℕ → Option (ℕ × List ℕ)
u8_at [] = None
u8_at (b ∷ rest) = Some (b, rest)

-- so many bytes
abbrev pub bytes_at : ℕ → List ℕ → Option (List ℕ × List ℕ)
bytes_at n bytes = if nat_lt (length bytes) n then None else Some (take n bytes, drop n bytes)

-- a number of a width, its highest byte first
abbrev pub number_at : Width → List ℕ → Option (ℕ × List ℕ)
number_at w bytes = if nat_lt (length bytes) (byte_len w) then None else Some (from_be_bytes w (take (byte_len w) bytes), drop (byte_len w) bytes)

-- a length of two bytes, and that many bytes
unfoldable pub text_at : List ℕ → Option (List ℕ × List ℕ)
text_at bytes = do
  n ← number_at w16 bytes
  bytes_at n.0 n.1

-- a read took the value, seen by view, and stands behind it; or it was short where it stood, and moved nothing
abbrev pub Reads : {X Y : Type 0} → (Y → X) → Result Y Short → Cursor → Cursor → Option (X × List ℕ) → Type 0
Reads view (Ok y) old new read = (read ≡ Some (view y, new.rest)) × (new.at + length new.rest ≡ old.at + length old.rest)
Reads view (Err short) old new read = (read ≡ None) × (short.0 ≡ old.at) × (new ≡ old)
