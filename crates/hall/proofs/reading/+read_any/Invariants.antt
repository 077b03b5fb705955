use Rattle.std.proofs.Common.{length}
use Rattle.hall.proofs.reading.+read_any.Given as goal

abbrev pub decreases-read_any : goal.decreases-read_any
decreases-read_any g l = length l.copies.now
