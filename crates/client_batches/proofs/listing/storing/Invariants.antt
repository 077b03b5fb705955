use Rattle.std.proofs.Common.{◌≡◌, map, take}
use Rattle.client_batches.specs.Listings.{stored}
use Rattle.client_batches.proofs.listing.storing.Given as goal

-- the items so far are those of the lines so far
abbrev pub invariant-lines : goal.invariant-lines
invariant-lines l = l.items.items ≡ map stored (take l.line-index l.lines)
