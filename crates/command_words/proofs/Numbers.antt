use Rattle.std.proofs.Common.{ℕ, ◌+◌, ◌*◌, ◌^◌, ◌<◌, ◌≤◌, arith}
use Rattle.std.proofs.Math.Nat.{pow-le-pow_right}

-- one more digit behind fewer than 13 fits 64 bits
pub digit_fits : (n d at len : ℕ) → n < 10 ^ at → at < len → len ≤ 13 → d ≤ 9 → 10 * n + d < 2 ^ 64
digit_fits n d at len h i j k =
    let most : 10 ^ at ≤ 10 ^ 12 = pow-le-pow_right {n = 10} (omega arith) {i = at} {j = 12} (omega arith) in
    omega arith
