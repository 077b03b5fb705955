use Rattle.std.proofs.Common.{◌≡◌, map, take}
use Rattle.client_batches.specs.Listings.{rebound}
use Rattle.client_batches.proofs.listing.rebinding.Given as goal

-- the items so far are those of the lines so far
abbrev pub invariant-lines : goal.invariant-lines
invariant-lines l = l.items ≡ map rebound (take l.line-index l.lines)
