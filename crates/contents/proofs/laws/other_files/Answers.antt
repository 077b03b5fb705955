use Rattle.contents.proofs.Kept.{others_kept, others_since}
use Rattle.contents.proofs.laws.other_files.Goals as goal

pub returns-clause-kept : goal.returns-clause-kept
returns-clause-kept c contents old new v valid goes kept = others_kept contents old new v valid goes kept

pub returns-clause-images : goal.returns-clause-images
returns-clause-images c contents old new v valid goes kept = others_since contents old new v valid goes kept
