use Rattle.std.proofs.Common.{length}
use Rattle.run_past.proofs.telling.+are_same_copies.Given as goal

abbrev pub decreases-are_same_copies : goal.decreases-are_same_copies
decreases-are_same_copies l = length l.old.now
