use Rattle.store_api.proofs.Images.{cut_leaves}
use Rattle.store_api.proofs.laws.after_cut.Goals as goal

pub returns : goal.returns
returns c h file = cut_leaves h file
