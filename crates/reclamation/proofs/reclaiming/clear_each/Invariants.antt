use Rattle.std.proofs.Common.{take}
use Rattle.steps.specs.Calls.{Call}
use Rattle.reclamation.specs.Reclaiming.{Emptied}
use Rattle.reclamation.proofs.reclaiming.clear_each.Given as goal

-- the volumes so far had their turns
abbrev pub invariant-files : goal.invariant-files
invariant-files g l = Call g.P.Stepper.did l.fn.p l.p (λ events. Emptied l.pool (take l.place l.files) l.fn.tried.keys l.tried.keys events l.so_far)
