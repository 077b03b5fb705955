use Rattle.std.proofs.Common.{◌∙◌, sym, subst}
use Rattle.space_index.specs.Claimed.{AreHeld}
use Rattle.space_index.proofs.Claiming.{base_kept}
use Rattle.space_index.proofs.index.Index.look_at.Goals as goal

pub returns : goal.returns
returns c = λ s claims sites others is same here. record {
  random = is.random;
  tails = c.in_ok-set.ensures.lists sites others is.tails same (here ∙ base_kept c.args.pools.now c.args.self.now.tails.held.entries claims.tickets is.held c.args.file ∙ sym c.base_at-site.ensures);
  held = subst (λ m. AreHeld m.entries claims.tickets) (sym c.in_ok-set.ensures.held) is.held;
}
