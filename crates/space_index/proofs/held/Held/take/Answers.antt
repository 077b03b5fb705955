use Rattle.std.proofs.Common.{ℕ, refl, subst, sym}
use Rattle.space_index.specs.Claimed.{IsMoreAt}
use Rattle.space_index.proofs.Claiming.{held_take_at}
use Rattle.space_index.proofs.held.Held.take.Goals as goal

pub returns : goal.returns
returns c = λ place less more same is one.
    held_take_at c.args.actor place c.args.segment.now less more c.args.self.now _ same one is refl (λ f g bag at. c.in_ok-take.ensures f g bag (subst (λ (n : ℕ). IsMoreAt n f g) (sym c.from.ensures) at))
    (λ f g bag at. c.in_ok-take-2.ensures f g bag (subst (λ (n : ℕ). IsMoreAt n f g) (sym c.frame_end.ensures) at))
