use Rattle.std.proofs.Common.{◌≡◌, ◌∙◌, [], ap, arith, rules}
use Rattle.space_index.specs.Claimed.{and_ticket, times}
use Rattle.space_index.proofs.Claiming.{alike_tails, ticket_pushed}
use Rattle.space_index.proofs.index.tails_of.Goals as goal

pub tickets-init : goal.tickets-init
tickets-init c =
    let rows : c.into_iter-claim-iterator.result ≡ c.tickets-claim-items.result.now.entries = search rules in
    ([], (λ m. omega (arith, ap (times m) (rows ∙ c.tickets-claim-items.ensures))), c.in_ok-tails.ensures)

pub tickets-preserved : goal.tickets-preserved
tickets-preserved c =
    let now = c.tickets.invariant in
    let claim = c.in-Some.claim.now in (
      and_ticket claim.actor c.as_slice.result.now now.0,
      (λ m. ticket_pushed m now.0 c.next.new.self c.tickets.claim-iterator c.in-Some.field-0-0.now claim c.as_slice.result.now c.as_slice.ensures c.in-Some.ensures.steps ∙ now.1 m),
      c.in_ok-put_all.ensures now.0 now.2,
    )

pub returns : goal.returns
returns c =
    let now = c.tickets.invariant in
    alike_tails c.tickets.tails c.args.pools.now now.0 c.args.space.now.tickets (λ m.
    let none : times m c.tickets.claim-iterator ≡ 0 = ap (times m) c.in-None.ensures.steps.0 in
    omega (arith, none, now.1 m)) now.2
