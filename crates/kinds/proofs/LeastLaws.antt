-- Of three numbers, of which each may be missing, the least is found in any order.
use Rattle.std.proofs.Common.{◌≡◌, ℕ, Option, Some, None, refl, ap, arith}
use Rattle.kinds.specs.Least.{lesser}

pub lesser_assoc : (a b c : Option ℕ) → lesser (lesser a b) c ≡ lesser a (lesser b c)
lesser_assoc None b c = refl
lesser_assoc (Some a) None c = refl
lesser_assoc (Some a) (Some b) None = refl
lesser_assoc (Some a) (Some b) (Some c) = ap Some (omega arith)
