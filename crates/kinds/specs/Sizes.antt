use Rattle.std.specs.Prelude.{ℕ, ◌^◌, Bool, nat_lt}

-- a stored object has fewer than 2^44 bytes
abbrev pub is_size : ℕ → Bool
is_size n = nat_lt n (2 ^ 44)
