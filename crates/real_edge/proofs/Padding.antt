-- What `{:08}` writes of a number.
use Rattle.std.proofs.Common.{◌≡◌, ℕ, ◌-◌, ◌^◌, ◌++◌, length, false, [], arith}
use Rattle.std.specs.Prelude.{replicate}
use Rattle.std.specs.Fmt.{padded_integral, format_spec, decimal, char_count}
use Rattle.std.proofs.lemmas.Grind.{common_steps}

pub eight_digits : (n : ℕ) → padded_integral (format_spec 32 0 4 8 (2 ^ 64 - 1)) false [] (decimal n) ≡ replicate (8 - length (decimal n)) 48 ++ decimal n
unfolding padded_integral char_count
eight_digits n = grind (arith, common_steps)
