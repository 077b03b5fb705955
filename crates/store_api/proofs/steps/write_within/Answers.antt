use Rattle.store_api.proofs.Runs.{told_map}
use Rattle.store_api.proofs.Ranges.{wrote_adds}
use Rattle.store_api.proofs.steps.write_within.Goals as goal

pub returns-clause-told : goal.returns-clause-told
returns-clause-told g c = told_map _ _ _ _ (wrote_adds c.args.file c.args.offset c.args.bytes.now c.write_at.result) c.write_at.ensures.told
