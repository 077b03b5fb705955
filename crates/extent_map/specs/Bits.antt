use Rattle.std.specs.Prelude.{ℕ, ◌≡◌, ◌<◌, ◌≤◌, Bool, true, false, ◌==◌, ◌&&◌, nat_le, nat_lt}
use Rattle.std.specs.Int.{bit_at}

-- whether the bit with this number, counted from the lowest, is set in a number
abbrev pub is_set : ℕ → ℕ → Bool
is_set word i = bit_at word i == 1

-- a number lies in the range from `low` to before `high`
abbrev pub is_between : ℕ → ℕ → ℕ → Bool
is_between low high i = nat_le low i && nat_lt i high

-- no bit from `low` to before `high` is set
abbrev pub NoneSet : (ℕ → Bool) → ℕ → ℕ → Type 0
NoneSet set low high = (i : ℕ) → low ≤ i → i < high → set i ≡ false

-- `at` is the lowest bit from `low` to before `high` that is set
pub record IsLowest (set : ℕ → Bool) (low high at : ℕ) : Type 0 where
  pub from : low ≤ at
  pub before : at < high
  pub here : set at ≡ true
  pub none_below : NoneSet set low at
