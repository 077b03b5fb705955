use Rattle.std.proofs.Common.{◌≤◌, take}
use Rattle.steps.specs.Calls.{Call}
use Rattle.copy_runs.specs.Runs.{Handled}
use Rattle.copy_runs.proofs.run.copy_each.Given as goal

-- for those so far attempts were made, and each count is at most their number
abbrev pub invariant-wanted : goal.invariant-wanted
invariant-wanted g l = record {
  handled : Call g.P.Stepper.did l.fn.p l.p (λ events. Handled (take l.place l.wanted) l.avoid events l.so_far);
  moved : l.so_far.moved ≤ l.place;
  failed : l.so_far.failed ≤ l.place;
}
