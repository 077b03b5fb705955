use Rattle.client_batches.proofs.Sealed.{most_sealed, seals-given}
use Rattle.client_batches.proofs.sealing.seal_batch.Goals as goal

pub returns-in-Ok-clause-most : goal.returns-in-Ok-clause-most
returns-in-Ok-clause-most g c =
    most_sealed g.P.Stepper.did c.args.p.now c.seal_each.new.p c.args.came.now c.seal_each.new.sealed.items c.args.tickets.now c.seal_each.new.held.items c.requires.of c.requires.few c.seal_each.ensures.held
    c.in-Ok.ensures.seals

pub returns-in-Err-clause-seals : goal.returns-in-Err-clause-seals
returns-in-Err-clause-seals g c =
    seals-given g.P.Stepper.did g.met.P.Stepper.goes_on c.args.p.now c.seal_each.new.p c.give_back.new.p c.args.came.now c.seal_each.new.sealed.items c.args.tickets.now c.in-Err.refusal c.give_back.result
    c.requires.of c.in-Err.ensures.seals c.give_back.ensures
