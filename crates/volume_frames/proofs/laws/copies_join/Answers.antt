use Rattle.volume_frames.proofs.Copies.{copy_parts, copy_join, bytes_of-append, bytes_len-append}
use Rattle.volume_frames.proofs.laws.copies_join.Goals as goal

pub returns-clause-framed : goal.returns-clause-framed
returns-clause-framed c image object number front back = (copy_parts image object number front back, λ both. copy_join image object number front back both.0 both.1)

pub returns-clause-bytes : goal.returns-clause-bytes
returns-clause-bytes c = bytes_of-append

pub returns-clause-length : goal.returns-clause-length
returns-clause-length c = bytes_len-append
