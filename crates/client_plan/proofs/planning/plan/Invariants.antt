use Rattle.std.proofs.Common.{◌+◌, ◌≤◌, length}
use Rattle.client_plan.specs.Plans.{AreListed, AreActive, scheme, actives}
use Rattle.client_plan.proofs.Walk.{Planned}
use Rattle.client_plan.proofs.planning.plan.Given as goal

-- what was planned, and then the plan of what is left, is the whole plan
abbrev pub invariant-paths : goal.invariant-paths
invariant-paths l = record {
  planned : AreActive (actives l.versions) → Planned (scheme l.classes l.binder l.today) l.files (actives l.versions) l.plan l.files_left (actives l.versions_left);
  listed : AreListed l.files_left;
  few : l.plan.skip + length l.files_left ≤ l.most;
}

abbrev pub decreases-paths : goal.decreases-paths
decreases-paths l = length l.files_left + length l.versions_left
