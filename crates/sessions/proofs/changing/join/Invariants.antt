use Rattle.std.proofs.Common.{◌≤◌, ◌-◌, ◌^◌}
use Rattle.steps.specs.Calls.{Call}
use Rattle.sessions.specs.Changing.{Commits}
use Rattle.sessions.specs.Waiting.{Waited}
use Rattle.sessions.proofs.changing.join.Given as goal

-- so many tries found it held
abbrev pub invariant-tries : goal.invariant-tries
invariant-tries g l = record {
  waited : Call g.P.Stepper.did l.fn.p l.p (Waited (Commits l.asked) l.tries);
  within : l.tries ≤ 2 ^ 64 - 1;
}

abbrev pub decreases-tries : goal.decreases-tries
decreases-tries g l = 2 ^ 64 - l.tries
