use Rattle.std.proofs.Common.{◌≡◌, ℕ, ⊎_elim, inl, inr, subst}
use Rattle.std.specs.Prelude.{IfSome}
use Rattle.store_api.specs.Disk.{now}
use Rattle.tsm_top.proofs.Safe.{safe}
use Rattle.tsm_top.proofs.top.serve.Goals as goal

pub returns-clause-images : goal.returns-clause-images
returns-clause-images g c = ⊎_elim (λ shut. inl shut.2.base_is)
    (λ ran. inr (
      ran.0,
      ran.1,
      safe _ _ _ _ _ _ _ _ _ _ _ _ _ _ _ _ _ _ _ (g.S.Store.told ran.3) (subst (λ (n : ℕ). IfSome (g.S.Store.told ran.3) (λ h. now h ≡ n)) ran.4 (c.clocks_agree.ensures ran.3)) ran.7 ran.8 ran.9,
    ))
    c.call.ensures.outcome
