-- Counts of faults, and what a failure says of them.
use Rattle.std.specs.Prelude.{ℕ, ◌+◌, ◌-◌, ◌^◌, ◌≤◌, min, Result, OnErr}

-- A count that was `before` rose, and is `after` now. It stops at its greatest value, and one that stood there counts as risen.
abbrev pub Rose : ℕ → ℕ → Type 0
Rose before after = min (before + 1) (2 ^ 64 - 1) ≤ after

-- the count didn't fall, and rose where the call failed
pub record HasCause {T E : Type 0} (before after : ℕ) (answer : Result T E) : Type 0 where
  pub kept : before ≤ after
  pub rose : OnErr answer (Rose before after)
