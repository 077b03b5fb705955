use Rattle.std.proofs.Common.{◌+◌, [], take, List, subst, arith}
use Rattle.std.proofs.lemmas.List.{take_all}
use Rattle.space.specs.declared.places.Placed.{Placed}
use Rattle.space_index.specs.Claimed.{and_ticket}
use Rattle.space_index.specs.Tails.{IsTailsOf}
use Rattle.space_index.proofs.Claiming.{and_more, and_none, alike_back, alike_tails}
use Rattle.space_index.proofs.tails.Tails.put_all.Goals as goal

none : Placed
none = record { pool = 0; segment = record { file = 0; offset = 0; len = 0 } }

pub places-init : goal.places-init
places-init c = λ tickets is. alike_tails c.args.self.now c.args.pools.now tickets (and_ticket c.args.actor [] tickets) (alike_back (and_ticket c.args.actor [] tickets) tickets (and_none c.args.actor tickets)) is

pub places-preserved : goal.places-preserved
unfolding none
places-preserved c = λ tickets is.
    let n = c.places.place-index in
    let places = c.args.places.now in
    c.in_ok-put.ensures (and_ticket c.args.actor (take n places) tickets) (and_ticket c.args.actor (take (n + 1) places) tickets) (c.places.invariant tickets is) (and_more c.args.actor places n none tickets c.places-test.true)

pub returns : goal.returns
returns c = λ tickets is.
    subst (λ (l : List Placed). IsTailsOf c.places.self c.args.pools.now (and_ticket c.args.actor l tickets)) (take_all c.places.place-index c.args.places.now (omega arith)) (c.places.invariant tickets is)
