use Rattle.contents.specs.Contents.{InStore}
use Rattle.contents.proofs.Growing.{frames_more, frames_stay}
use Rattle.contents.proofs.laws.frames_grow.Goals as goal

pub returns-clause-more : goal.returns-clause-more
returns-clause-more c h object number front s bytes part have long firm = frames_more (InStore h) object number front s bytes part have long firm

pub returns-clause-stay : goal.returns-clause-stay
returns-clause-stay c old new v object number front s back bytes clear wrote have = frames_stay old new v object number front s back bytes clear wrote have
