-- Different files have different names.
use Rattle.std.proofs.Common.{◌≡◌, inl, inr, ℕ, zero, suc, ◌-◌, ◌<◌, ◌^◌, ◌==◌, if◌then◌else◌, List, [], ◌∷◌, ◌++◌, length, get_or, drop, replicate, refl, sym, ◌∙◌, ap, arith}
use Rattle.std.proofs.lemmas.Bool.{cases_lt, ne_eqb, cond-false}
use Rattle.std.proofs.lemmas.Fmt.{decimal_digit, decimal_nonempty, first_decimal, decimal_injective}
use Rattle.std.specs.Fmt.{decimal}
use Rattle.real_edge.specs.Names.{file_name}

-- the digits behind the leading zeros
strip : List ℕ → List ℕ
strip [] = []
strip (x ∷ xs) = if x == 48 then strip xs else x ∷ xs

strip_zeros : (k : ℕ) (digits : List ℕ) → strip (replicate k 48 ++ digits) ≡ strip digits
unfolding strip
strip_zeros zero digits = refl
strip_zeros (suc k) digits = strip_zeros k digits

strip_none : (digits : List ℕ) → 48 < get_or digits 0 0 → strip digits ≡ digits
unfolding strip
strip_none [] big = absurd (omega (arith, big))
strip_none (x ∷ xs) big = cond-false _ _ _ (ne_eqb x 48 (λ same. omega (arith, big, same)))

-- the digits of a name behind its leading zeros
stripped : (n : ℕ) → strip (drop 1 (file_name n)) ≡ strip (decimal n)
stripped n = strip_zeros (8 - length (decimal n)) (decimal n)

stripped_some : (n : ℕ) → 0 < n → n < 2 ^ 32 → strip (drop 1 (file_name n)) ≡ decimal n
stripped_some n some fits = stripped n ∙ strip_none (decimal n) (first_decimal n some (omega arith))

stripped_zero : (n : ℕ) → n < 1 → strip (drop 1 (file_name n)) ≡ []
unfolding strip
stripped_zero zero none = stripped 0 ∙ ap strip (decimal_digit 0 (omega arith))
stripped_zero (suc n) none = absurd (omega (arith, none))

decimal_some : (n : ℕ) → n < 2 ^ 32 → decimal n ≡ [] → ⊥
decimal_some n fits none = omega (arith, decimal_nonempty n (omega arith), ap length none)

pub names_apart : (m n : ℕ) → m < 2 ^ 32 → n < 2 ^ 32 → file_name m ≡ file_name n → m ≡ n
names_apart m n fits fits' same =
    let s = ap (λ (l : List ℕ). strip (drop 1 l)) same in
    elim (cases_lt m 1) [
      | inl m0 ↦ elim (cases_lt n 1) [
        | inl n0 ↦ omega arith
        | inr n1 ↦ absurd (decimal_some n fits' (sym (stripped_some n (omega arith) fits') ∙ sym s ∙ stripped_zero m m0))
      ]
      | inr m1 ↦ elim (cases_lt n 1) [
        | inl n0 ↦ absurd (decimal_some m fits (sym (stripped_some m (omega arith) fits) ∙ s ∙ stripped_zero n n0))
        | inr n1 ↦ decimal_injective m n (omega arith) (omega arith) (sym (stripped_some m (omega arith) fits) ∙ s ∙ stripped_some n (omega arith) fits')
      ]
    ]
