use Rattle.std.specs.Prelude.{ℕ, ◌^◌, Bool, nat_lt, nat_le}

-- a day's number is below 2^31
abbrev pub is_day : ℕ → Bool
is_day n = nat_lt n (2 ^ 31)

-- a span of days has at most 9,999
abbrev pub is_days : ℕ → Bool
is_days n = nat_le n 9999
