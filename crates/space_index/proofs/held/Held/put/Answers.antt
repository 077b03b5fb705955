use Rattle.std.proofs.Common.{ℕ, refl, subst, sym, rules}
use Rattle.space_index.specs.Claimed.{IsMoreAt}
use Rattle.space_index.proofs.Claiming.{held_put}
use Rattle.space_index.proofs.held.Held.put.Goals as goal

pub returns : goal.returns
returns c = λ less more is one.
    held_put c.args.actor c.args.place.now less more c.args.self.now _ one is (search rules) refl (λ f g bag at. c.in_ok-put.ensures f g bag (subst (λ (n : ℕ). IsMoreAt n f g) (sym c.from.ensures) at))
    (λ f g bag at. c.in_ok-put-2.ensures f g bag (subst (λ (n : ℕ). IsMoreAt n f g) (sym c.frame_end.ensures) at))
