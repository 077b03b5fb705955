-- Room for a number of things.
use Rattle.std.specs.Prelude.{ℕ, ◌+◌, nat_le, Option, Some, None, if◌then◌else◌}

-- so many and so many more, where that is no more than there may be
abbrev pub sum_within : ℕ → ℕ → ℕ → Option ℕ
sum_within known more most = if nat_le (known + more) most then Some (known + more) else None
