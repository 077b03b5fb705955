-- One step along a chain of next pools.
use Rattle.std.proofs.Common.{◌≡◌, ℕ, suc, ◌+◌, ◌-◌, ◌<◌, Bool, true, false, nat_eq, List, Option, Some, refl, sym, ap, ◌∙◌, arith}
use Rattle.std.specs.Prelude.{◌==◌, ◌||◌}
use Rattle.std.specs.List.{list_any}
use Rattle.std.proofs.lemmas.Bool.{eqb-true}
use Rattle.pool_tables.specs.declared.pool.Pool.{Pool}
use Rattle.pool_tables.specs.Rows.{row_at}
use Rattle.pool_rows.specs.Hierarchy.{next_in, chain}

not_equal : (a b : ℕ) → (a ≡ b → ⊥) → nat_eq a b ≡ false
not_equal a b h = elim (nat_eq a b) as (λ t. nat_eq a b ≡ t → t ≡ false) [ true ↦ λ yes. absurd (h (eqb-true a b yes)) | false ↦ λ _. refl ] refl

-- the chain from here on comes to the number where the chain behind this pool does, which has another number
pub chain_step : (end counter number pool : ℕ) (next then : Option ℕ) (pools : List (ℕ × Pool)) (comes : Bool) → counter < end → next ≡ Some pool → (pool ≡ number → ⊥) → then ≡ next_in (row_at pool pools)
    → list_any (λ p. p == number) (chain (end - counter) next pools) ≡ comes → list_any (λ p. p == number) (chain (end - (counter + 1)) then pools) ≡ comes
chain_step end counter number pool next then pools comes below is ne so h =
    let more : end - counter ≡ suc (end - (counter + 1)) = omega arith in
    let first : list_any (λ p. p == number) (chain (end - counter) next pools) ≡ (nat_eq pool number || list_any (λ p. p == number) (chain (end - (counter + 1)) (next_in (row_at pool pools)) pools)) =
    ap (λ n. list_any (λ p. p == number) (chain n next pools)) more ∙ ap (λ (o : Option ℕ). list_any (λ p. p == number) (chain (suc (end - (counter + 1))) o pools)) is in
    ap (λ (o : Option ℕ). list_any (λ p. p == number) (chain (end - (counter + 1)) o pools)) so
    ∙ sym (ap (λ b. b || list_any (λ p. p == number) (chain (end - (counter + 1)) (next_in (row_at pool pools)) pools)) (not_equal pool number ne))
    ∙ sym first ∙ h
