use Rattle.std.proofs.Common.{◌≡◌, ℕ, None, sym, subst, ◌∙◌}
use Rattle.std.proofs.lemmas.Option.{same_Some}
use Rattle.pool_tables.specs.Rows.{row_at}
use Rattle.space_index.specs.Updates.{ChangesAt}
use Rattle.kept_index.proofs.volumes.delete_volume.Goals as goal

pub returns : goal.returns
returns c = λ s claims file named is changes gone.
    let t = c.args.pools.now in
    let same : file ≡ c.in-Some.at = same_Some file c.in-Some.at (sym named ∙ c.in-Some.is) in
    c.in_ok-remove_volume.ensures s claims is (subst (λ (f : ℕ). ChangesAt f s t) same changes) (subst (λ (f : ℕ). row_at f t.volumes ≡ None) same gone)
