-- What the places of files come to.
use Rattle.std.specs.Prelude.{◌≡◌, ◌≤◌, ◌+◌, ◌*◌, ℕ}
use Rattle.placing.specs.Placing.{block_bytes}

-- a file's blocks have room for its header of 32 bytes and its data
abbrev pub HasRoomForFrame : ℕ → Type 0
HasRoomForFrame len = 32 + len ≤ block_bytes len

-- a number of bytes is one of whole blocks
abbrev pub IsWhole : ℕ → Type 0
IsWhole bytes = (blocks : ℕ) × (bytes ≡ 4096 * blocks)
