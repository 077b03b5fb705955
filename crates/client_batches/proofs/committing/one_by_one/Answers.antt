use Rattle.std.proofs.Common.{◌+◌, List, Option, arith, subst, sym, take}
use Rattle.kinds.specs.declared.refusal.Refusal.{Refusal}
use Rattle.steps.specs.Calls.{Call}
use Rattle.client_batches.specs.Commits.{Singles}
use Rattle.client_batches.proofs.Committed.{singles-ended, singles-next, singles-wanting}
use Rattle.client_batches.proofs.committing.one_by_one.Goals as goal

pub returns-in-Err-push : goal.returns-in-Err-push
returns-in-Err-push g c =
    singles-wanting g.P.Stepper.did g.met.P.Stepper.goes_on c.args.p.now c.lines.p c.commit_alone.new.p (g.L.Listing.asking c.args.filespace) c.args.lines.now c.lines.place c.args.tickets.now
    c.own_ticket-ticket.result.now c.lines.outs.items c.in-Ok.out (omega (arith, c.lines-test.true)) c.own_ticket-ticket.ensures c.lines.invariant c.in-Ok.ensures

pub returns-in-Err : goal.returns-in-Err
returns-in-Err g c =
    singles-ended g.P.Stepper.did g.met.P.Stepper.goes_on c.args.p.now c.lines.p c.commit_alone.new.p (g.L.Listing.asking c.args.filespace) c.args.lines.now c.lines.place c.args.tickets.now
    c.own_ticket-ticket.result.now c.lines.outs.items c.in-Err.refusal (omega (arith, c.lines-test.true)) c.own_ticket-ticket.ensures c.lines.invariant c.in-Err.ensures

pub lines-preserved : goal.lines-preserved
lines-preserved g c =
    subst (λ (outs : List (Option Refusal)). Call g.P.Stepper.did c.args.p.now c.commit_alone.new.p (λ events. Singles (g.L.Listing.asking c.args.filespace) (take (c.lines.place + 1) c.args.lines.now) c.args.tickets.now outs events))
    (sym c.in-Ok-push.ensures.items)
    (singles-next g.P.Stepper.did g.met.P.Stepper.goes_on c.args.p.now c.lines.p c.commit_alone.new.p (g.L.Listing.asking c.args.filespace) c.args.lines.now c.lines.place c.args.tickets.now
    c.own_ticket-ticket.result.now c.lines.outs.items c.in-Ok.out (omega (arith, c.lines-test.true)) c.own_ticket-ticket.ensures c.lines.invariant c.in-Ok.ensures)
