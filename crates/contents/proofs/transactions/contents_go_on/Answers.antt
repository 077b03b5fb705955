use Rattle.contents.specs.Contents.{InImage, InStore}
use Rattle.contents.proofs.Brought.{have_after}
use Rattle.contents.proofs.transactions.contents_go_on.Goals as goal

pub returns-clause-kept : goal.returns-clause-kept
returns-clause-kept k contents h c v brings kept = have_after (InStore h) contents c v brings kept

pub returns-clause-held : goal.returns-clause-held
returns-clause-held k contents image c v brings held = have_after (InImage image) contents c v brings held
