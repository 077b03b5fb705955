use Rattle.std.proofs.Common.{◌+◌, [], drop, get_or, List, refl, subst, arith}
use Rattle.std.proofs.lemmas.List.{drop_all}
use Rattle.space.specs.declared.places.Placed.{Placed}
use Rattle.space_index.specs.Claimed.{and_ticket}
use Rattle.space_index.specs.Tails.{IsTailsOf}
use Rattle.space_index.proofs.Claiming.{and_fewer, and_none, alike_tails}
use Rattle.space_index.proofs.tails.Tails.take_all.Goals as goal

none : Placed
none = record { pool = 0; segment = record { file = 0; offset = 0; len = 0 } }

pub places-preserved : goal.places-preserved
unfolding none
places-preserved c = λ tickets is.
    let n = c.places.place-index in
    let places = c.args.places.now in
    c.in_ok-take.ensures (get_or places n none) (and_ticket c.args.actor (drop (n + 1) places) tickets) (and_ticket c.args.actor (drop n places) tickets) refl (c.places.invariant tickets is) (and_fewer c.args.actor places n none tickets c.places-test.true)

pub returns : goal.returns
returns c = λ tickets is.
    alike_tails c.places.self c.args.pools.now (and_ticket c.args.actor [] tickets) tickets (and_none c.args.actor tickets)
    (subst (λ (l : List Placed). IsTailsOf c.places.self c.args.pools.now (and_ticket c.args.actor l tickets)) (drop_all c.places.place-index c.args.places.now (omega arith)) (c.places.invariant tickets is))
