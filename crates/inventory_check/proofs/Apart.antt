-- Numbers that stand once: those of lists in ascending order, and those of two such lists together.
use Rattle.std.proofs.Common.{◌≡◌, ℕ, true, false, ◌&&◌, not, cond, is_some, List, [], ◌∷◌, ◌++◌, Some, refl, sym, ap, ◌∙◌, arith}
use Rattle.std.specs.Prelude.{◌==◌}
use Rattle.std.specs.BTreeMap.{is_at}
use Rattle.std.specs.List.{list_all, AllByRecursion}
use Rattle.std.specs.List.Sorted.{IsStrictlySortedBy}
use Rattle.std.specs.Map.{keys_of}
use Rattle.std.specs.Ordering.{nat_cmp}
use Rattle.std.specs.declared.cmp.Ordering.TheVariants.{Less}
use Rattle.std.proofs.lemmas.Bool.Decides.{nat_tests}
use Rattle.std.proofs.lemmas.List.Folds.{list_all-append}
use Rattle.std.proofs.lemmas.Map.Keys.{sorted_head, sorted_tail}
use Rattle.inventory_rows.specs.pool_tables.Rows.{row_at}
use Rattle.inventory_rules.specs.Valid.{are_apart}
use Rattle.inventory_check.proofs.Walking.{list_all-same}

differs : (x y : ℕ) → nat_cmp x y ≡ Less → not (x == y) ≡ true
differs x y h = grind (arith, nat_tests)

pub same_number : (x y : ℕ) → is_at (nat_cmp x) y ≡ (x == y)
same_number x y = grind (arith, nat_tests)

all_differ : (x : ℕ) (ys : List ℕ) → AllByRecursion (λ y. nat_cmp x y ≡ Less) ys → list_all (λ y. not (x == y)) ys ≡ true
all_differ x [] h = refl
all_differ x (y ∷ ys) h = ap (λ b. b && list_all (λ z. not (x == z)) ys) (differs x y h.0) ∙ all_differ x ys h.1

sorted_apart : (xs : List ℕ) → IsStrictlySortedBy nat_cmp xs → are_apart xs ≡ true
sorted_apart [] h = refl
sorted_apart (x ∷ xs) h = ap (λ b. b && are_apart xs) (all_differ x xs (sorted_head nat_cmp x xs h)) ∙ sorted_apart xs (sorted_tail nat_cmp x xs h)

joined_apart : (xs ys : List ℕ) → IsStrictlySortedBy nat_cmp xs → are_apart ys ≡ true → are_apart (xs ++ ys) ≡ list_all (λ x. list_all (λ y. not (x == y)) ys) xs
joined_apart [] ys s t = t
joined_apart (x ∷ xs) ys s t =
    ap (λ b. b && are_apart (xs ++ ys))
    (list_all-append (λ y. not (x == y)) xs ys ∙ ap (λ b. b && list_all (λ y. not (x == y)) ys) (all_differ x xs (sorted_head nat_cmp x xs s)))
    ∙ ap (λ b. list_all (λ y. not (x == y)) ys && b) (joined_apart xs ys (sorted_tail nat_cmp x xs s) t)

-- a number that no key is has no row
absent : {V : Type 0} (n : ℕ) (es : List (ℕ × V)) → list_all (λ m. not (n == m)) (keys_of es) ≡ not (is_some (row_at n es))
absent n [] = refl
absent {V} n (e ∷ es) =
    elim (n == e.0) as (λ b. (not b && list_all (λ m. not (n == m)) (keys_of es)) ≡ not (is_some (cond b (Some e.1) (row_at n es)))) [ true ↦ refl | false ↦ absent n es ]
    ∙ ap (λ b. not (is_some (cond b (Some e.1) (row_at n es)))) (sym (same_number n e.0))

pub keys_apart : {V W : Type 0} (vs : List (ℕ × V)) (ws : List (ℕ × W)) → IsStrictlySortedBy nat_cmp (keys_of vs) → IsStrictlySortedBy nat_cmp (keys_of ws)
    → are_apart (keys_of vs ++ keys_of ws) ≡ list_all (λ n. not (is_some (row_at n ws))) (keys_of vs)
keys_apart vs ws s t =
    joined_apart (keys_of vs) (keys_of ws) s (sorted_apart (keys_of ws) t)
    ∙ list_all-same (λ n. list_all (λ m. not (n == m)) (keys_of ws)) (λ n. not (is_some (row_at n ws))) (λ n. absent n ws) (keys_of vs)
