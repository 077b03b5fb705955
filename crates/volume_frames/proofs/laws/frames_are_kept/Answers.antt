use Rattle.volume_frames.proofs.Copies.{copy_kept, bytes_kept}
use Rattle.volume_frames.proofs.laws.frames_are_kept.Goals as goal

pub returns-clause-framed : goal.returns-clause-framed
returns-clause-framed c image other object segments keeps framed = copy_kept image other object 0 segments keeps framed

pub returns-clause-bytes : goal.returns-clause-bytes
returns-clause-bytes c image other object segments keeps framed = bytes_kept image other object 0 segments keeps framed
