use Rattle.std.proofs.Common.{◌≤◌, ◌-◌}
use Rattle.steps.specs.Calls.{Call}
use Rattle.copy_attempts.specs.Attempts.{Pieces}
use Rattle.copy_attempts.proofs.attempt.copy_pieces.Given as goal

-- so many pieces were copied so far
abbrev pub invariant-pieces : goal.invariant-pieces
invariant-pieces g l = record {
  pieces : Call g.P.Stepper.did l.fn.p l.p (λ events. Pieces l.fn.ticket l.copied events);
  within : l.copied ≤ l.fn.count;
}

abbrev pub decreases-pieces : goal.decreases-pieces
decreases-pieces g l = l.fn.count - l.copied
