use Rattle.contents.specs.Contents.{InImage, InStore}
use Rattle.contents.proofs.Arrived.{have_held_more}
use Rattle.contents.proofs.transactions.a_held_object_more.Goals as goal

pub returns-clause-kept : goal.returns-clause-kept
returns-clause-kept c j contents bytes h change item v valid caused none one kept new = have_held_more (InStore h) j contents bytes change item v valid caused none one kept new

pub returns-clause-held : goal.returns-clause-held
returns-clause-held c j contents image bytes change item v valid caused none one held new = have_held_more (InImage image) j contents bytes change item v valid caused none one held new
