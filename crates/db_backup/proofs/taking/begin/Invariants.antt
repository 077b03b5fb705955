use Rattle.std.proofs.Common.{◌≤◌, ◌-◌, ◌^◌}
use Rattle.steps.specs.Calls.{Call}
use Rattle.sessions.specs.Waiting.{Waited}
use Rattle.db_backup.specs.Taking.{Begins}
use Rattle.db_backup.proofs.taking.begin.Given as goal

-- so many tries found another image being written
abbrev pub invariant-tries : goal.invariant-tries
invariant-tries g l = record {
  waited : Call g.P.Stepper.did l.fn.p l.p (Waited (Begins l.fn.kind) l.tries);
  within : l.tries ≤ 2 ^ 64 - 1;
}

abbrev pub decreases-tries : goal.decreases-tries
decreases-tries g l = 2 ^ 64 - l.tries
