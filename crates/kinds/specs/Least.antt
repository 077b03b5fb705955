use Rattle.std.specs.Prelude.{ℕ, Option, Some, None, min}

-- the lesser of two numbers, of which each may be missing
abbrev pub lesser : Option ℕ → Option ℕ → Option ℕ
lesser None b = b
lesser (Some n) None = Some n
lesser (Some n) (Some m) = Some (min n m)
