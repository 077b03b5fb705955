use Rattle.std.proofs.Common.{◌≤◌, ◌-◌, ◌^◌, [], ◌∷◌}
use Rattle.steps.specs.Calls.{Call}
use Rattle.reuse_delay.specs.Reusing.{Worked}
use Rattle.reuse_delay.proofs.process.reuse_one.Given as goal

-- so far the volume was waited for
abbrev pub invariant-tries : goal.invariant-tries
invariant-tries g l = record {
  waited : Call g.P.Stepper.did l.fn.p l.p (λ events. Worked (l.fn.file ∷ []) (l.fn.file ∷ []) events 0);
  within : l.tries ≤ 2 ^ 64 - 1;
}

abbrev pub decreases-tries : goal.decreases-tries
decreases-tries g l = 2 ^ 64 - l.tries
