use Rattle.contents.proofs.Kept.{looked_kept, looked_since}
use Rattle.contents.proofs.laws.only_looked.Goals as goal

pub returns-clause-kept : goal.returns-clause-kept
returns-clause-kept c contents old new v goes kept = looked_kept contents old new v goes kept

pub returns-clause-images : goal.returns-clause-images
returns-clause-images c contents old new v goes kept = looked_since contents old new v goes kept
