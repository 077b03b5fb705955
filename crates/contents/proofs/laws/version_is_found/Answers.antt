use Rattle.contents.specs.Contents.{InImage, InStore}
use Rattle.contents.proofs.Found.{found_has, found_long}
use Rattle.contents.proofs.laws.version_is_found.Goals as goal

pub returns-clause-kept : goal.returns-clause-kept
returns-clause-kept c contents h object v w kept found = found_has (InStore h) contents object v w kept found

pub returns-clause-held : goal.returns-clause-held
returns-clause-held c contents image object v w held found = found_has (InImage image) contents object v w held found

pub returns-clause-size : goal.returns-clause-size
returns-clause-size c object v w valid found = found_long object v w valid found
