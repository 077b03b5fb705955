use Rattle.std.proofs.Common.{refl, subst, sym}
use Rattle.space_index.specs.Claimed.{AreHeld}
use Rattle.space_index.proofs.Claiming.{relisted}
use Rattle.space_index.proofs.tails.Tails.take.Goals as goal

pub returns : goal.returns
returns c = λ place less more same is one. record {
  held = subst (λ m. AreHeld m.entries less) (sym c.in_ok-set-2.ensures.held) (c.in_ok-take_place.ensures.counts place less more same (subst (λ m. AreHeld m.entries more) (sym c.in_ok-set.ensures.held) is.held) one);
  lists = relisted c.args.pools.now c.args.segment.now.file c.args.self.now c.set.new.self (record c.set.new.self { held = c.take_place.new.held }) c.set-2.new.self c.base_at-site.result is.lists c.in_ok-set.ensures.lists c.in_ok-set.ensures.held refl c.in_ok-take_place.ensures.others
      c.base_at-site.ensures c.in_ok-set-2.ensures.lists c.in_ok-set-2.ensures.held;
}
