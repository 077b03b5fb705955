use Rattle.std.proofs.Common.{take}
use Rattle.steps.specs.Calls.{Call}
use Rattle.client_batches.specs.Tickets.{DropsAll}
use Rattle.client_batches.proofs.tickets.drop_each.Given as goal

-- those so far are given back
abbrev pub invariant-tickets : goal.invariant-tickets
invariant-tickets g l = Call g.P.Stepper.did l.fn.p l.p (λ events. DropsAll (take l.place l.tickets) events)
