use Rattle.store_api.proofs.Runs.{told_map}
use Rattle.log_file.proofs.Opening.{settled_by, not_settled_by}
use Rattle.log_file.proofs.reads.settle.Goals as goal

pub returns-in-Ok-sync-clause-told : goal.returns-in-Ok-sync-clause-told
returns-in-Ok-sync-clause-told g c = told_map _ _ _ _ (settled_by c.args.file tt) c.in-Ok-sync.ensures.told

pub returns-in-Err-sync-clause-told : goal.returns-in-Err-sync-clause-told
returns-in-Err-sync-clause-told g c = told_map _ _ _ _ (not_settled_by c.args.file c.in-Err-sync.field-0 _) c.in-Err-sync.ensures.told
