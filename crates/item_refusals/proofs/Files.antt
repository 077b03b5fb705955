-- Numbers that are drawn.
use Rattle.std.proofs.Common.{◌≡◌, ℕ, true, false, ◌&&◌, [], ◌∷◌, refl}
use Rattle.kinds.specs.Refusals.{foremost, unless, bad_value}
use Rattle.inventory_rules.specs.inventory_rows.State.{Inv}
use Rattle.inventory_rules.specs.Common.{is_free_file, files_refused}

pub one_file : (file : ℕ) (v : Inv) → foremost (files_refused (file ∷ []) v) ≡ foremost (unless (is_free_file v file) bad_value)
one_file file v = elim (is_free_file v file) as (λ b. foremost (unless ((b && true) && (true && true)) bad_value) ≡ foremost (unless b bad_value)) [ true ↦ refl | false ↦ refl ]
