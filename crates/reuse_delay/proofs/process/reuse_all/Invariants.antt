use Rattle.std.proofs.Common.{◌≤◌, drop}
use Rattle.steps.specs.Calls.{Call}
use Rattle.reuse_delay.specs.Reusing.{Worked}
use Rattle.reuse_delay.proofs.process.reuse_all.Given as goal

-- those so far were tried, and at most one was reused for each
abbrev pub invariant-files : goal.invariant-files
invariant-files g l = record {
  worked : Call g.P.Stepper.did l.fn.p l.p (λ events. Worked l.files (drop l.place l.files) events l.count);
  few : l.count ≤ l.place;
}
