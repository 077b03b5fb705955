use Rattle.client_batches.proofs.Sealed.{one-sealed}
use Rattle.client_batches.proofs.sealing.seal_one.Goals as goal

pub returns-in-Written : goal.returns-in-Written
returns-in-Written g c =
    one-sealed g.P.Stepper.did c.args.p.now c.seal.new.self c.args.it c.in-Written.ticket c.in-Written.digest c.seal.result c.sealed_as.result c.in-Written.is c.seal.ensures c.sealed_as.ensures
