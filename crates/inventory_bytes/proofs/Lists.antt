-- Lists each of whose elements is within a bound.
use Rattle.std.proofs.Common.{◌≡◌, ℕ, ◌+◌, ◌-◌, ◌<◌, Bool, true, List, [], ◌∷◌, length, take, drop, arith}
use Rattle.std.specs.List.{AllByRecursion, list_all, sum_by}
use Rattle.std.proofs.lemmas.Bool.{and_parts}
use Rattle.std.proofs.lemmas.List.{take_all}
use Rattle.std.proofs.lemmas.List.Sums.{sum_by-cons}

-- where a sum is below a bound, its second summand is
pub second_below : (a b bound : ℕ) → a + b < bound → b < bound
second_below a b bound few = omega (arith, few)

-- where the sum over a list is below a bound, each summand is
pub each_below : {A : Type 0} (f : A → ℕ) (bound : ℕ) (xs : List A) → sum_by f xs < bound → AllByRecursion (λ x. f x < bound) xs
each_below f bound [] few = tt
each_below f bound (x ∷ xs) few = (omega (arith, few, sum_by-cons f x xs), each_below f bound xs (omega (arith, few, sum_by-cons f x xs)))

-- the same of elements that pass a test
pub each_within : {A : Type 0} (f : A → ℕ) (test : A → Bool) (bound : ℕ) (xs : List A) → list_all test xs ≡ true → sum_by f xs < bound
    → AllByRecursion (λ x. (f x < bound) × (test x ≡ true)) xs
each_within f test bound [] so few = tt
each_within f test bound (x ∷ xs) so few =
    let p = and_parts (test x) (list_all test xs) so in
    ((omega (arith, few, sum_by-cons f x xs), p.0), each_within f test bound xs p.1 (omega (arith, few, sum_by-cons f x xs)))

-- the list without its first element
pub rest_of : {A : Type 0} (x : A) (xs : List A) → take (length (x ∷ xs) - 1) (drop 1 (x ∷ xs)) ≡ xs
rest_of x xs =
    let n : length (x ∷ xs) - 1 ≡ length xs = omega arith in
    take_all (length (x ∷ xs) - 1) xs (omega (arith, n))
