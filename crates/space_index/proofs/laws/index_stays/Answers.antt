use Rattle.std.proofs.Common.{ℕ, List, is_some, ap, subst, sym, ◌∙◌}
use Rattle.space.specs.declared.claims.Claim.{Claim}
use Rattle.space_index.specs.Claimed.{AreHeld}
use Rattle.space_index.specs.Tails.{base_at}
use Rattle.space_index.proofs.Following.{stays_same}
use Rattle.space_index.proofs.Listings.{tails_same, bases_kept}
use Rattle.space_index.proofs.laws.index_stays.Goals as goal

pub returns-clause-pools : goal.returns-clause-pools
returns-clause-pools c = λ i s t claims others volumes kinds tickets freed is. record {
  random = stays_same i.random s t claims others volumes (λ pool. ap is_some (kinds pool)) tickets freed is.random;
  tails = tails_same i.tails (base_at s claims.tickets) (base_at t others.tickets) (λ q. bases_kept claims.tickets s t volumes kinds q ∙ ap (λ (l : List (ℕ × Claim)). base_at t l q) (sym tickets)) is.tails;
  held = subst (λ (l : List (ℕ × Claim)). AreHeld i.tails.held.entries l) (sym tickets) is.held;
}

pub returns-clause-settled : goal.returns-clause-settled
returns-clause-settled c = λ i s claims sites is same. record { random = is.random; tails = tails_same i.tails sites (base_at s claims.tickets) same is.tails; held = is.held }
