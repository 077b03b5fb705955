use Rattle.contents.proofs.Kept.{beside_kept, written_since}
use Rattle.contents.proofs.laws.written_beside.Goals as goal

pub returns-clause-kept : goal.returns-clause-kept
returns-clause-kept c contents old new v sequential s wrote clear kept = beside_kept contents old new v sequential s wrote clear kept

pub returns-clause-images : goal.returns-clause-images
returns-clause-images c contents old new v sequential s wrote clear kept = written_since contents old new v sequential s wrote clear kept
