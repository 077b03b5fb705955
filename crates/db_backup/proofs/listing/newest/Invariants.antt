use Rattle.std.proofs.Common.{◌≡◌, drop}
use Rattle.db_backup.specs.Listing.{newest, newest_of}
use Rattle.db_backup.proofs.listing.newest.Given as goal

-- the newest of those so far, and of those that are left
abbrev pub invariant-lines : goal.invariant-lines
invariant-lines l = newest_of l.best (drop l.line-index l.lines) ≡ newest l.lines
