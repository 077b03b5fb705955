use Rattle.db_restore.proofs.Putting.{put_done, put_failed}
use Rattle.db_restore.proofs.restoring.put.Goals as goal

pub returns-in-Ok-clause-told : goal.returns-in-Ok-clause-told
returns-in-Ok-clause-told g c = put_done c.args.left.0 c.args.left.1 _ _ c.in-Ok.ensures.told

pub returns-clause-told : goal.returns-clause-told
returns-clause-told g c = put_failed c.args.left.0 c.args.left.1 c.in-Err.refused _ _ c.in-Err.ensures.told
