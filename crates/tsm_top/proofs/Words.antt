-- The words of a line that says which file is damaged.
use Rattle.std.proofs.Common.{◌≡◌, ℕ, List, refl, sym, ◌∙◌, ap, ◌++◌, codes}
use Rattle.std.specs.Fmt.{decimal, digits}

-- the digits of the four files' numbers
pub zero_digits : decimal 0 ≡ codes "0"
unfolding digits
zero_digits = refl

pub one_digits : decimal 1 ≡ codes "1"
unfolding digits
one_digits = refl

pub two_digits : decimal 2 ≡ codes "2"
unfolding digits
two_digits = refl

pub three_digits : decimal 3 ≡ codes "3"
unfolding digits
three_digits = refl

pub damaged : (file number : ℕ) (text : List ℕ) → file ≡ number → decimal number ≡ text → codes "DAMAGED " ++ (text ++ codes " ") ≡ codes "DAMAGED " ++ (decimal file ++ codes " ")
damaged file number text is digits_are = ap (λ (digit : List ℕ). codes "DAMAGED " ++ (digit ++ codes " ")) (sym digits_are ∙ ap (λ (n : ℕ). decimal n) (sym is))
