use Rattle.std.proofs.Common.{Bool, sym, subst}
use Rattle.steps.specs.Calls.{Call}
use Rattle.deletions.proofs.Removing.{takes-dropped}
use Rattle.deletions.proofs.volume.take.Goals as goal
use Rattle.deletions.specs.Volumes.{Takes}

pub returns-then-of_copy_pool : goal.returns-then-of_copy_pool
returns-then-of_copy_pool g c =
    subst (λ (b : Bool). Call g.P.Stepper.did c.args.p.now c.drop_all.new.p (λ events. Takes b c.args.file c.args.lines.now events c.drop_all.result)) (sym c.if-of_copy_pool.true)
    (takes-dropped g.P.Stepper.did c.args.p.now c.drop_all.new.p c.args.file c.args.lines.now c.drop_all.result c.drop_all.ensures)
