use Rattle.std.proofs.Common.{◌≡◌, ◌≤◌, ◌-◌, ◌^◌, length}
use Rattle.steps.specs.Calls.{Call}
use Rattle.sessions.specs.Checkpoints.{AreMore}
use Rattle.db_backup.proofs.taking.go_on.Given as goal

-- so many pieces were written
abbrev pub invariant-pieces : goal.invariant-pieces
invariant-pieces g l = record {
  more : Call g.P.Stepper.did l.fn.p l.p (λ events. AreMore events × (length events ≡ l.pieces));
  within : l.pieces ≤ 2 ^ 64 - 1;
}

abbrev pub decreases-pieces : goal.decreases-pieces
decreases-pieces g l = 2 ^ 64 - l.pieces
