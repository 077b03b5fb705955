use Rattle.std.proofs.Common.{◌≡◌, ℕ, sym, subst, ◌∙◌}
use Rattle.std.proofs.lemmas.Option.{same_Some}
use Rattle.pool_tables.specs.Rows.{row_at}
use Rattle.space_index.specs.Updates.{ChangesAt, IsAccessOf}
use Rattle.kept_index.proofs.volumes.set_access.Goals as goal

pub returns : goal.returns
returns c = λ s claims file named is changes access.
    let t = c.args.pools.now in
    let same : file ≡ c.in-Some.at = same_Some file c.in-Some.at (sym named ∙ c.in-Some.is) in
    c.in_ok-set_volume_access.ensures s claims is (subst (λ (f : ℕ). ChangesAt f s t) same changes) (subst (λ (f : ℕ). IsAccessOf c.args.access.now (row_at f s.volumes) (row_at f t.volumes)) same access)
