use Rattle.client_batches.proofs.Batched.{stored-sealed, stored-unsealed}
use Rattle.client_batches.proofs.batch.seal_and_store.Goals as goal

pub returns-in-Err : goal.returns-in-Err
returns-in-Err g c =
    stored-unsealed g.P.Stepper.did c.args.p.now c.seal_batch.new.p c.args.filespace c.args.lines.now c.args.came.now c.seal_batch.new.sealed.items c.in-Err.refusal c.in-Err.ensures.seals

pub returns : goal.returns
returns g c =
    stored-sealed g.P.Stepper.did g.met.P.Stepper.goes_on c.args.p.now c.seal_batch.new.p c.store_sealed.new.p c.args.filespace c.args.lines.now c.args.came.now c.seal_batch.new.sealed.items c.as_slice.result.now
    c.seal_batch.new.held.items c.as_slice-2.result.now c.store_sealed.result c.as_slice.ensures.value c.as_slice-2.ensures.value c.seal_batch.ensures.held c.in-Ok.ensures.seals c.store_sealed.ensures
