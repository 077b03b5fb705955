use Rattle.std.proofs.Common.{◌≡◌, ◌-◌, ◌^◌, length}
use Rattle.steps.specs.Calls.{Call}
use Rattle.migration.specs.Migrating.{Going}
use Rattle.migration.specs.Turns.{rest_of}
use Rattle.migration.proofs.turns.lower.Given as goal

-- so far these were tried, and there are as many transactions as copies
abbrev pub invariant-turns : goal.invariant-turns
invariant-turns g l = record {
  going : Call g.P.Stepper.did l.fn.p l.p (λ events. Going (g.C.Chooser.picks l.chooser) l.pool l.low (rest_of l.left) events l.so_far);
  same : length l.left.placed.items ≡ length l.left.candidates.items;
}

abbrev pub decreases-turns : goal.decreases-turns
decreases-turns g l = 2 ^ 64 - l.tries
