use Rattle.std.proofs.Common.{arith, sym}
use Rattle.client_batches.proofs.Dropping.{drops-ended, drops-next, same_at}
use Rattle.client_batches.proofs.tickets.drop_each.Goals as goal

pub returns-in-Some : goal.returns-in-Some
returns-in-Some g c =
    drops-ended g.P.Stepper.did g.met.P.Stepper.goes_on c.args.p.now c.tickets.p c.drop_ticket.new.self c.args.tickets.now c.tickets.place _ c.drop_ticket.result
    c.in-Some.refusal (omega (arith, c.tickets-test.true)) (same_at c.args.tickets.now c.tickets.place _ (omega (arith, c.tickets-test.true))) c.tickets.invariant c.drop_ticket.ensures (sym c.in-Some.ensures)

pub tickets-preserved : goal.tickets-preserved
tickets-preserved g c =
    drops-next g.P.Stepper.did g.met.P.Stepper.goes_on c.args.p.now c.tickets.p c.drop_ticket.new.self c.args.tickets.now c.tickets.place _ c.drop_ticket.result
    (omega (arith, c.tickets-test.true)) (same_at c.args.tickets.now c.tickets.place _ (omega (arith, c.tickets-test.true))) c.tickets.invariant c.drop_ticket.ensures (sym c.in-None.ensures)
