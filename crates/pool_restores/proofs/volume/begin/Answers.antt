use Rattle.std.proofs.Common.{[], ◌∷◌, refl}
use Rattle.pool_restores.proofs.Destroying.{begins-volume}
use Rattle.pool_restores.proofs.volume.begin.Goals as goal

pub returns-in-Ok : goal.returns-in-Ok
returns-in-Ok g c =
    begins-volume g.P.Stepper.did g.met.P.Stepper.goes_on c.args.p.now c.destroy.new.p c.collect.new.p c.args.file (c.args.file ∷ []) c.collect.result refl c.in-Ok.ensures c.collect.ensures
