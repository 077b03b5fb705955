use Rattle.std.proofs.Common.{◌≡◌, subst}
use Rattle.machine.specs.State.{own_tickets, ticket}
use Rattle.hall.specs.Held.{Held}
use Rattle.hall.specs.Seats.{own_seat}
use Rattle.hall.specs.Sights.{seen, tickets_of}
use Rattle.hall.proofs.Walking.{own_is}
use Rattle.hall.proofs.parts.Parts.own.Goals as goal

pub returns-then-seat-actor-clause-ticket : goal.returns-then-seat-actor-clause-ticket
returns-then-seat-actor-clause-ticket c =
    subst (λ (h : Held). ticket c.args.number (own_tickets c.args.actor (tickets_of h.seats)) ≡ seen c.args.number (own_seat c.args.actor c.args.number h)) c.self.view_is
    (own_is c.args.actor c.args.number c.self.inside.seats.entries c.len.ensures.ordered)

pub returns-else-seat-actor-clause-ticket : goal.returns-else-seat-actor-clause-ticket
returns-else-seat-actor-clause-ticket c =
    subst (λ (h : Held). ticket c.args.number (own_tickets c.args.actor (tickets_of h.seats)) ≡ seen c.args.number (own_seat c.args.actor c.args.number h)) c.self.view_is
    (own_is c.args.actor c.args.number c.self.inside.seats.entries c.len.ensures.ordered)

pub returns-in-None-clause-ticket : goal.returns-in-None-clause-ticket
returns-in-None-clause-ticket c =
    subst (λ (h : Held). ticket c.args.number (own_tickets c.args.actor (tickets_of h.seats)) ≡ seen c.args.number (own_seat c.args.actor c.args.number h)) c.self.view_is
    (own_is c.args.actor c.args.number c.self.inside.seats.entries c.len.ensures.ordered)
