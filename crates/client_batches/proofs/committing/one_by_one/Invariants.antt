use Rattle.std.proofs.Common.{take}
use Rattle.steps.specs.Calls.{Call}
use Rattle.client_batches.specs.Commits.{Singles}
use Rattle.client_batches.proofs.committing.one_by_one.Given as goal

-- those so far are handled
abbrev pub invariant-lines : goal.invariant-lines
invariant-lines g l = Call g.P.Stepper.did l.fn.p l.p (λ events. Singles (g.L.Listing.asking l.filespace) (take l.place l.lines) l.tickets l.outs.items events)
