use Rattle.volume_frames.proofs.Copies.{framed_made, framed_whole}
use Rattle.volume_frames.proofs.laws.frame_is_written.Goals as goal

pub returns-clause-made : goal.returns-clause-made
returns-clause-made c = framed_made

pub returns-clause-whole : goal.returns-clause-whole
returns-clause-whole c = framed_whole
