-- Which pools the copies but one lie in.
use Rattle.std.proofs.Common.{◌≡◌, ℕ, Bool, true, false, cond, eqb, not, ◌&&◌, ◌||◌, List, [], ◌∷◌, refl, sym, ap, ◌∙◌}
use Rattle.std.proofs.lemmas.Bool.{eqb-true}
use Rattle.version_groups.specs.declared.copies.CopyRow.{CopyRow}
use Rattle.version_groups.specs.Copies.{has_copy, without_copy}

and_false : (b : Bool) → (b && false) ≡ false
and_false true = refl
and_false false = refl

pub has_copy_of_others : (pool from : ℕ) (cs : List CopyRow) → has_copy pool (without_copy from cs) ≡ (not (eqb from pool) && has_copy pool cs)
has_copy_of_others pool from [] = sym (and_false (not (eqb from pool)))
has_copy_of_others pool from (c ∷ cs) =
    elim (eqb c.pool from) as (λ b. eqb c.pool from ≡ b → has_copy pool (cond (not b) (c ∷ without_copy from cs) (without_copy from cs)) ≡ (not (eqb from pool) && (eqb c.pool pool || has_copy pool cs))) [
      | true ↦ λ here.
          has_copy_of_others pool from cs
          ∙ elim (eqb from pool) as (λ b. (not b && has_copy pool cs) ≡ (not b && (b || has_copy pool cs))) [ true ↦ refl | false ↦ refl ]
          ∙ ap (λ n. not (eqb from pool) && (eqb n pool || has_copy pool cs)) (sym (eqb-true c.pool from here))
      | false ↦ λ away.
          ap (λ t. eqb c.pool pool || t) (has_copy_of_others pool from cs)
          ∙ elim (eqb from pool) as (λ b. eqb from pool ≡ b → (eqb c.pool pool || (not b && has_copy pool cs)) ≡ (not b && (eqb c.pool pool || has_copy pool cs))) [
            | true ↦ λ same. ap (λ t. t || false) (ap (eqb c.pool) (sym (eqb-true from pool same)) ∙ away)
            | false ↦ λ _. refl
          ] refl
    ] refl
