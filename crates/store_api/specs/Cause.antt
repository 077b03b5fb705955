-- Counts of faults, and what a failure says of them.
use Rattle.std.specs.Prelude.{ℕ, ◌+◌, ◌-◌, ◌^◌, ◌≤◌, min}

-- A count that was `before` rose, and is `after` now. It stops at its greatest value, and one that stood there counts as risen.
abbrev pub Rose : ℕ → ℕ → Type 0
Rose before after = min (before + 1) (2 ^ 64 - 1) ≤ after

-- no file's count fell
abbrev pub NoneFell : (ℕ → ℕ) → (ℕ → ℕ) → Type 0
NoneFell before after = (file : ℕ) → before file ≤ after file
