use Rattle.std.proofs.Common.{◌≡◌, length}
use Rattle.db_backup.specs.Listing.{is_met}
use Rattle.db_backup.proofs.listing.is_met.Given as goal

-- it is met on the way that is left exactly where it is met on the whole
abbrev pub invariant-way : goal.invariant-way
invariant-way l = is_met l.left l.lines l.file l.at ≡ is_met (length l.lines) l.lines l.file l.fn.from

abbrev pub decreases-way : goal.decreases-way
decreases-way l = l.left
