-- The delays that a database backup keeps, pool by pool.
use Rattle.std.proofs.Common.{◌≡◌, ℕ, Bool, true, false, cond, List, [], ◌∷◌, ◌++◌, filter, refl, sym, ap, subst, ◌∙◌, append_assoc}
use Rattle.std.specs.List.{flat_map}
use Rattle.std.specs.List.Sorted.{IsStrictlySortedBy}
use Rattle.std.specs.Map.{keys_of}
use Rattle.std.specs.Ordering.{nat_cmp}
use Rattle.std.proofs.lemmas.List.Kept.{IsStrictlySortedBy-filter}
use Rattle.inventory_rows.specs.pool_tables.declared.pool.Pool.{Pool}
use Rattle.inventory_rows.specs.pool_tables.Rows.{with_row}
use Rattle.inventory_rows.proofs.of_pool_tables.Ascending.{last_row}
use Rattle.inventory_rows.specs.State.{Inv}
use Rattle.inventory_effects.specs.Delaying.{delay_kept, has_delay}

-- the delays of some pools, where they are kept
abbrev pub delays_of : Inv → List (ℕ × Pool) → List (ℕ × ℕ)
delays_of v pools = flat_map (λ p. cond (has_delay v p.0) ((p.0, p.1.settings.reuse_delay) ∷ []) []) pools

keys-delays : (v : Inv) (pools : List (ℕ × Pool)) → keys_of (delays_of v pools) ≡ filter (has_delay v) (keys_of pools)
keys-delays v [] = refl
keys-delays v (p ∷ pools) =
    elim (has_delay v p.0) as (λ b. keys_of (cond b ((p.0, p.1.settings.reuse_delay) ∷ []) [] ++ delays_of v pools) ≡ cond b (p.0 ∷ filter (has_delay v) (keys_of pools)) (filter (has_delay v) (keys_of pools))) [
      | true ↦ ap (λ l. p.0 ∷ l) (keys-delays v pools)
      | false ↦ keys-delays v pools
    ]

-- the delay of the next pool comes behind those that are there
pub kept_next : (v : Inv) (n : ℕ) (p : Pool) (done : List (ℕ × ℕ)) (rest all : List (ℕ × Pool)) → IsStrictlySortedBy nat_cmp (keys_of all) → done ++ delays_of v ((n, p) ∷ rest) ≡ delays_of v all → delay_kept v n p done ++ delays_of v rest ≡ delays_of v all
kept_next v n p done rest all s h = go (has_delay v n) h where
  go : (b : Bool) → done ++ (cond b ((n, p.settings.reuse_delay) ∷ []) [] ++ delays_of v rest) ≡ delays_of v all → cond b (with_row n p.settings.reuse_delay done) done ++ delays_of v rest ≡ delays_of v all
  go true g =
      let sorted : IsStrictlySortedBy nat_cmp (keys_of (done ++ (n, p.settings.reuse_delay) ∷ delays_of v rest)) =
      subst (λ (l : List (ℕ × ℕ)). IsStrictlySortedBy nat_cmp (keys_of l)) (sym g) (subst (IsStrictlySortedBy nat_cmp) (sym (keys-delays v all)) (IsStrictlySortedBy-filter nat_cmp (has_delay v) (keys_of all) s)) in
      ap (λ l. l ++ delays_of v rest) (last_row done n p.settings.reuse_delay (delays_of v rest) sorted).0
      ∙ append_assoc done ((n, p.settings.reuse_delay) ∷ []) (delays_of v rest) ∙ g
  go false g = g
