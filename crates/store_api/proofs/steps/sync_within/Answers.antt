use Rattle.store_api.proofs.Runs.{told_map}
use Rattle.store_api.proofs.Ranges.{synced_adds}
use Rattle.store_api.proofs.steps.sync_within.Goals as goal

pub returns-clause-told : goal.returns-clause-told
returns-clause-told g c = told_map _ _ _ _ (synced_adds c.args.file c.sync.result) c.sync.ensures.told
