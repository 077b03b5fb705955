use Rattle.contents.proofs.Kept.{kept_left, kept_reads}
use Rattle.contents.proofs.laws.kept_is_left.Goals as goal

pub returns-clause-images : goal.returns-clause-images
returns-clause-images c contents h v image kept here = kept_left contents h v image kept here

pub returns-clause-reads : goal.returns-clause-reads
returns-clause-reads c contents h v kept = kept_reads contents h v kept
