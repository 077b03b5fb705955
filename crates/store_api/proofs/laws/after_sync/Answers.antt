use Rattle.store_api.proofs.Images.{settle_leaves}
use Rattle.store_api.proofs.laws.after_sync.Goals as goal

pub returns-clause-ok : goal.returns-clause-ok
returns-clause-ok c h file left leaves = settle_leaves h file left leaves
