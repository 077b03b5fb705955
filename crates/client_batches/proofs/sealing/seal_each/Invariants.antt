use Rattle.std.proofs.Common.{◌≡◌, take}
use Rattle.steps.specs.Calls.{Call}
use Rattle.client_batches.specs.Seals.{SealsEach}
use Rattle.client_batches.specs.Sends.{tickets_in}
use Rattle.client_batches.proofs.sealing.seal_each.Given as goal

-- those so far are sealed
abbrev pub invariant-came : goal.invariant-came
invariant-came g l = record {
  seals : Call g.P.Stepper.did l.fn.p l.p (λ events. SealsEach (take l.it-index l.came) l.sealed.items events);
  held : l.held.items ≡ tickets_in l.sealed.items;
}
