use Rattle.store_api.proofs.Runs.{told_map, told_then}
use Rattle.store_api.proofs.Ranges.{wrote_then_synced, wrote_not_synced}
use Rattle.store_api.proofs.steps.write_synced.Goals as goal

pub returns-in-Ok-clause-told : goal.returns-in-Ok-clause-told
returns-in-Ok-clause-told g c =
    told_then _ _ _ _ _ _ (wrote_then_synced c.args.file c.args.offset c.args.bytes.now tt c.sync_within.result) c.in-Ok.ensures.told c.sync_within.ensures.told

pub returns-in-Err-clause-told : goal.returns-in-Err-clause-told
returns-in-Err-clause-told g c = told_map _ _ _ _ (wrote_not_synced c.args.file c.args.offset c.args.bytes.now c.in-Err.failed c.in-Err.failed) c.in-Err.ensures.told
