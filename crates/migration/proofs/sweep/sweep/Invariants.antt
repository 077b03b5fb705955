use Rattle.std.proofs.Common.{◌-◌, ◌^◌}
use Rattle.steps.specs.Calls.{Call}
use Rattle.migration.specs.Sweeping.{Sweeping}
use Rattle.migration.proofs.sweep.sweep.Given as goal

-- so far the pools that were due were migrated
abbrev pub invariant-pools : goal.invariant-pools
invariant-pools g l = Call g.P.Stepper.did l.fn.p l.p (λ events. Sweeping (g.C.Chooser.picks l.chooser) l.before events l.so_far)

abbrev pub decreases-pools : goal.decreases-pools
decreases-pools g l = 2 ^ 32 - l.turns
