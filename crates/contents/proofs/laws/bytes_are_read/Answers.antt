use Rattle.contents.specs.Contents.{InImage}
use Rattle.contents.proofs.Parts.{bytes_are, frames_long, part_there, piece_there}
use Rattle.contents.proofs.laws.bytes_are_read.Goals as goal

pub returns-clause-bytes : goal.returns-clause-bytes
returns-clause-bytes c image object number segments bytes have = bytes_are image object number segments bytes have

pub returns-clause-length : goal.returns-clause-length
returns-clause-length c image object number segments bytes have = frames_long (InImage image) object number segments bytes have

pub returns-clause-part : goal.returns-clause-part
returns-clause-part c image object number front s back bytes from count some fits have = part_there image object number front s back bytes from count some fits have

pub returns-clause-piece : goal.returns-clause-piece
returns-clause-piece c image object number segments bytes offset count have = piece_there image object offset count number segments bytes have
