use Rattle.std.proofs.Common.{List, subst}
use Rattle.space.specs.Claims.{held}
use Rattle.space.specs.declared.places.Placed.{Placed}
use Rattle.space_index.specs.Claimed.{and_ticket}
use Rattle.space_index.specs.Tails.{IsTailsOf}
use Rattle.space_index.proofs.Claiming.{tails_in, tails_at, held_lists}
use Rattle.space_index.proofs.index.Index.hold.Goals as goal

pub returns : goal.returns
returns c = λ claims number is absent.
    let s = c.args.pools.now in
    let claim = c.args.claim.now in
    let t = c.put_all.new.self in
    let now = held_lists t s number claim claims.tickets absent
    (subst (λ (l : List Placed). IsTailsOf t s (and_ticket claim.actor l claims.tickets)) c.as_slice.ensures (c.in_ok-put_all.ensures claims.tickets (tails_in c.args.self.now.tails s claims.tickets is.held is.tails))) in
    record { random = c.in_ok-hold.ensures s claims number is.random absent; tails = tails_at t s (held number claim claims).tickets now; held = now.held }
