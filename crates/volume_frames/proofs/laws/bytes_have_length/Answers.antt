use Rattle.volume_frames.proofs.Copies.{length-bytes_of}
use Rattle.volume_frames.proofs.laws.bytes_have_length.Goals as goal

pub returns : goal.returns
returns c image object segments framed = length-bytes_of image object 0 segments framed
