-- The bytes of a log: records one behind another, up to the first gate that isn't open.
use Rattle.std.specs.Prelude.{◌≡◌, ◌≢◌, ◌⊎◌, ℕ, ◌+◌, ◌<◌, ◌≤◌, ◌^◌, List, [], ◌∷◌, ◌++◌, length, take}
use Rattle.std.specs.Int.{w32, to_be_bytes, from_be_bytes}
use Rattle.std.specs.List.{AllByRecursion}

-- a record has at most 2^24 bytes
abbrev pub Fits : List ℕ → Type 0
Fits payload = length payload ≤ 2 ^ 24

-- a record with its gate open: 1, its length in four bytes, and its bytes
unfoldable pub block : List ℕ → List ℕ
block payload = 1 ∷ (to_be_bytes w32 (length payload) ++ payload)

-- records one behind another
abbrev pub blocks : List (List ℕ) → List ℕ
blocks [] = []
blocks (payload ∷ payloads) = block payload ++ blocks payloads

-- no open gate is at the front: nothing is there, or the first byte isn't 1
abbrev pub IsClosed : List ℕ → Type 0
IsClosed [] = Unit {0}
IsClosed (gate ∷ rest) = gate ≢ 1

-- behind an open gate no record stands: its length isn't all there, is above 2^24, or leads past the end
abbrev pub IsBroken : List ℕ → Type 0
IsBroken bytes = (length bytes < 4) ⊎ ((2 ^ 24 < from_be_bytes w32 (take 4 bytes)) ⊎ (length bytes < 4 + from_be_bytes w32 (take 4 bytes)))

-- The bytes are a log of these records: they stand from the start on, and no open gate is behind them.
pub record LogIs (bytes : List ℕ) (payloads : List (List ℕ)) : Type 0 where
  pub rest : List ℕ
  pub whole : bytes ≡ blocks payloads ++ rest
  pub closed : IsClosed rest
  pub fits : AllByRecursion Fits payloads

-- The same, and the gate that ends the log lies within the bytes.
pub record LogEnds (bytes : List ℕ) (payloads : List (List ℕ)) : Type 0 where
  pub gate : ℕ
  pub rest : List ℕ
  pub whole : bytes ≡ blocks payloads ++ (gate ∷ rest)
  pub closed : gate ≢ 1
  pub fits : AllByRecursion Fits payloads

-- The bytes are damaged at this place: behind these records is an open gate, and behind it, at the place, no record.
pub record DamagedAt (bytes : List ℕ) (payloads : List (List ℕ)) (at : ℕ) : Type 0 where
  pub rest : List ℕ
  pub whole : bytes ≡ blocks payloads ++ (1 ∷ rest)
  pub fits : AllByRecursion Fits payloads
  pub place : at ≡ length (blocks payloads) + 1
  pub broken : IsBroken rest

-- a log of these records that ends within the bytes, or of these and all that were waiting behind them
abbrev pub EndsEither : List ℕ → List (List ℕ) → List (List ℕ) → Type 0
EndsEither bytes payloads waiting = LogEnds bytes payloads ⊎ LogEnds bytes (payloads ++ waiting)
