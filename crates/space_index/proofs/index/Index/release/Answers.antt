use Rattle.std.proofs.Common.{List, subst, sym}
use Rattle.space.specs.Claims.{released}
use Rattle.space.specs.declared.places.Placed.{Placed}
use Rattle.space_index.specs.Claimed.{and_ticket}
use Rattle.space_index.specs.Tails.{IsTailsOf}
use Rattle.space_index.proofs.Claiming.{tails_in, tails_at, unheld_lists}
use Rattle.space_index.proofs.index.Index.release.Goals as goal

pub returns : goal.returns
returns c = λ claims number is there.
    let s = c.args.pools.now in
    let claim = c.args.claim.now in
    let t = c.take_all.new.self in
    let after = (released number claims).tickets in
    let now = c.in_ok-take_all.ensures after
    (subst (λ (l : List Placed). IsTailsOf c.args.self.now.tails s (and_ticket claim.actor l after)) (sym c.as_slice.ensures) (unheld_lists c.args.self.now.tails s number claim claims.tickets there (tails_in c.args.self.now.tails s claims.tickets is.held is.tails))) in
    record { random = c.in_ok-release.ensures s claims number is.random there; tails = tails_at t s after now; held = now.held }
