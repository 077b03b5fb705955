use Rattle.std.proofs.Common.{◌≡◌, ◌+◌, ◌<◌, ◌^◌, [], length}
use Rattle.client_plan.specs.Plans.{scheme, plan_of, joined}
use Rattle.client_plan.proofs.planning.add_rest.Given as goal

-- what was planned, and then the plan of what is left, is the whole plan
abbrev pub invariant-files : goal.invariant-files
invariant-files l = record {
  planned : joined l.plan (plan_of (scheme l.classes l.binder l.today) l.left []) ≡ joined l.fn.plan (plan_of (scheme l.classes l.binder l.today) l.files []);
  few : l.plan.skip + length l.left < 2 ^ 64;
}

abbrev pub decreases-files : goal.decreases-files
decreases-files l = length l.left
