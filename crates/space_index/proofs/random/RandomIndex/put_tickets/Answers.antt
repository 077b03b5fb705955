use Rattle.std.proofs.Common.{◌≡◌, ◌∙◌, ◌+◌, ℕ, List, ap, arith, rules}
use Rattle.space.specs.declared.claims.Claim.{Claim}
use Rattle.space_index.specs.Index.{tickets_reach}
use Rattle.space_index.specs.Updates.{and_places}
use Rattle.space_index.proofs.Following.{counts_same, ticket_pushed}
use Rattle.space_index.proofs.random.RandomIndex.put_tickets.Goals as goal

pub tickets-init : goal.tickets-init
tickets-init c = λ shapes times is.
    let rows : c.into_iter-claim-iterator.result ≡ c.tickets-claim-items.result.now.entries = search rules in
    (times, (λ f k. ap (λ (l : List (ℕ × Claim)). times f k + tickets_reach l f k) (rows ∙ c.tickets-claim-items.ensures)), is)

pub tickets-preserved : goal.tickets-preserved
tickets-preserved c = λ shapes times is.
    let now = c.tickets.invariant shapes times is in (
      and_places c.as_slice.result.now now.0,
      (λ f k. ticket_pushed now.0 c.in-Some.field-0-0.now c.in-Some.claim.now c.next.new.self c.tickets.claim-iterator c.as_slice.result.now c.as_slice.ensures c.in-Some.ensures.steps f k ∙ now.1 f k),
      c.in_ok-put_all.ensures shapes now.0 now.2,
    )

pub returns : goal.returns
returns c = λ shapes times is.
    let now = c.tickets.invariant shapes times is in
    counts_same c.tickets.self shapes now.0 (λ f k. times f k + tickets_reach c.args.space.now.tickets f k) (λ f k.
    let none : tickets_reach c.tickets.claim-iterator f k ≡ 0 = ap (λ (l : List (ℕ × Claim)). tickets_reach l f k) c.in-None.ensures.steps.0 in
    omega (arith, none, now.1 f k)) now.2
