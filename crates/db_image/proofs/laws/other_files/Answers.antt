use Rattle.std.specs.Prelude.{IsTrue}
use Rattle.db_image.proofs.One.{underway_beside, image_since}
use Rattle.db_image.proofs.laws.other_files.Goals as goal

pub returns-clause-underway : goal.returns-clause-underway
returns-clause-underway c theirs old new job goes beside under = underway_beside (λ f. IsTrue (theirs f)) old new goes job.phase job beside under

pub returns-clause-images : goal.returns-clause-images
returns-clause-images c theirs old new file number mark payload goes beside allowed never small firm = image_since (λ f. IsTrue (theirs f)) old new goes file number mark payload beside allowed never small firm
