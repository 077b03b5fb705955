use Rattle.volume_frames.proofs.Copies.{header_tells}
use Rattle.volume_frames.proofs.laws.headers_tell.Goals as goal

pub returns : goal.returns
returns c = header_tells
