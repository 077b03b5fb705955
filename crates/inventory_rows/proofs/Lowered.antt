-- The delays after one of them was lowered.
use Rattle.std.proofs.Common.{◌≡◌, ℕ, true, false, cond, List, [], ◌∷◌, Some, None, refl, sym, ap, ◌∙◌}
use Rattle.std.specs.Prelude.{min}
use Rattle.std.proofs.lemmas.Map.{lookup-none}
use Rattle.std.proofs.lemmas.Map.Entries.{none_past_head}
use Rattle.std.proofs.lemmas.Map.Keys.{IsDistinct-from_sorted, sorted_tail}
use Rattle.std.specs.BTreeMap.{is_at}
use Rattle.std.specs.Cmp.{eq_by_cmp_equiv, nat_cmp_total}
use Rattle.std.specs.List.Sorted.{IsStrictlySortedBy}
use Rattle.std.specs.Map.{keys_of, lookup, set_value}
use Rattle.std.specs.Ordering.{nat_cmp}
use Rattle.object_rows.proofs.Stands.{at-eqb}
use Rattle.inventory_rows.specs.Delays.{lowered}

-- a pool that has no delay
pub lowered-absent : (pool delay : ℕ) (es : List (ℕ × ℕ)) → lookup (is_at (nat_cmp pool)) es ≡ None → lowered pool delay es ≡ es
lowered-absent pool delay [] h = refl
lowered-absent pool delay (e ∷ es) h =
    elim (is_at (nat_cmp pool) e.0) as (λ b. is_at (nat_cmp pool) e.0 ≡ b → cond b (Some e.1) (lookup (is_at (nat_cmp pool)) es) ≡ None → lowered pool delay (e ∷ es) ≡ e ∷ es) [
      | true ↦ λ t g. absurd (cc)
      | false ↦ λ t g. ap (λ b. cond b (e.0, min e.1 delay) e ∷ lowered pool delay es) (sym (at-eqb pool e.0) ∙ t) ∙ ap (λ l. e ∷ l) (lowered-absent pool delay es g)
    ] refl h

-- a pool that has one
pub lowered-there : (pool delay n : ℕ) (es : List (ℕ × ℕ)) → IsStrictlySortedBy nat_cmp (keys_of es) → lookup (is_at (nat_cmp pool)) es ≡ Some n → set_value (is_at (nat_cmp pool)) es (min n delay) ≡ lowered pool delay es
lowered-there pool delay n [] s h = absurd (cc)
lowered-there pool delay n (e ∷ es) s h =
    elim (is_at (nat_cmp pool) e.0) as (λ b. is_at (nat_cmp pool) e.0 ≡ b → cond b (Some e.1) (lookup (is_at (nat_cmp pool)) es) ≡ Some n → cond b ((e.0, min n delay) ∷ es) (e ∷ set_value (is_at (nat_cmp pool)) es (min n delay)) ≡ lowered pool delay (e ∷ es)) [
      | true ↦ λ t g.
          let same : e.1 ≡ n = cc in
          let none : lookup (is_at (nat_cmp pool)) es ≡ None = lookup-none (is_at (nat_cmp pool)) es (none_past_head (eq_by_cmp_equiv nat_cmp_total) pool e es (IsDistinct-from_sorted nat_cmp (keys_of (e ∷ es)) s) t) in
          ap (λ m. (e.0, min m delay) ∷ es) (sym same) ∙ ap (λ l. (e.0, min e.1 delay) ∷ l) (sym (lowered-absent pool delay es none))
          ∙ ap (λ b. cond b (e.0, min e.1 delay) e ∷ lowered pool delay es) (sym t ∙ at-eqb pool e.0)
      | false ↦ λ t g.
          ap (λ l. e ∷ l) (lowered-there pool delay n es (sorted_tail nat_cmp e.0 (keys_of es) s) g)
          ∙ ap (λ b. cond b (e.0, min e.1 delay) e ∷ lowered pool delay es) (sym t ∙ at-eqb pool e.0)
    ] refl h
