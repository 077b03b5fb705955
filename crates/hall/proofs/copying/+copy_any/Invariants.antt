use Rattle.std.proofs.Common.{length}
use Rattle.hall.proofs.copying.+copy_any.Given as goal

abbrev pub decreases-copy_any : goal.decreases-copy_any
decreases-copy_any g l = length l.copies.now
