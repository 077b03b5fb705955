use Rattle.client_batches.proofs.Batched.{batch-made, batch-unstored}
use Rattle.client_batches.proofs.batch.send_batch.Goals as goal

pub returns-in-Ok-seal_and_store-clause-batches : goal.returns-in-Ok-seal_and_store-clause-batches
returns-in-Ok-seal_and_store-clause-batches g c =
    batch-made g.P.Stepper.did g.met.P.Stepper.goes_on c.args.p.now c.fill_batch.new.p c.seal_and_store.new.p c.args.classes.now (g.T.Tree.files c.args.tree.now) c.args.filespace c.args.lines.now
    c.fill_batch.new.came.items c.as_slice-all.result.now c.seal_and_store.new.sealed.items (record { came = c.from_vec.result; sealed = c.from_vec-in-Ok-seal_and_store.result; outs = c.in-Ok-seal_and_store.outs })
    (g.T.Tree.fault_count c.args.tree.now) (g.T.Tree.fault_count c.fill_batch.new.tree) c.as_slice-all.ensures.value c.from_vec.ensures c.from_vec-in-Ok-seal_and_store.ensures c.in-Ok.ensures.fills c.in-Ok-seal_and_store.ensures

pub returns-in-Err-seal_and_store-clause-batches : goal.returns-in-Err-seal_and_store-clause-batches
returns-in-Err-seal_and_store-clause-batches g c =
    batch-unstored g.P.Stepper.did g.met.P.Stepper.goes_on c.args.p.now c.fill_batch.new.p c.seal_and_store.new.p c.args.classes.now (g.T.Tree.files c.args.tree.now) c.args.filespace c.args.lines.now
    c.fill_batch.new.came.items c.as_slice-all.result.now c.seal_and_store.new.sealed.items c.in-Err-seal_and_store.refusal (g.T.Tree.fault_count c.args.tree.now) (g.T.Tree.fault_count c.fill_batch.new.tree)
    c.as_slice-all.ensures.value c.in-Ok.ensures.fills c.in-Err-seal_and_store.ensures
