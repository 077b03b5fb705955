use Rattle.std.proofs.Common.{◌≡◌, ℕ, List, [], ◌∷◌, length, refl, arith, ap, ◌∙◌}
use Rattle.std.specs.Option.{option_map}
use Rattle.pool_tables.specs.Rows.{row_at}
use Rattle.space_index.specs.declared.held.Held.{Held}
use Rattle.space_index.proofs.Claiming.{pool_kept}
use Rattle.space_index.proofs.index.Index.is_unheld.Goals as goal

no_length : (l : List (ℕ × Held)) → length l ≡ 0 → l ≡ []
no_length [] h = refl
no_length (e ∷ l) h = absurd (omega (arith, h))

pub returns : goal.returns
returns c = λ s claims sites is none file.
    pool_kept file claims.tickets (row_at file c.args.self.now.tails.held.entries) (is.held file)
    ∙ ap (λ (l : List (ℕ × Held)). option_map (λ h. h.pool) (row_at file l)) (no_length c.args.self.now.tails.held.entries (c.is_empty.ensures.0 none))
