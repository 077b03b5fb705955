use Rattle.std.proofs.Common.{◌≡◌, ℕ, [], Option}
use Rattle.space.specs.declared.site.Site.{Site}
use Rattle.space_index.specs.Tails.{AreTails}
use Rattle.space_index.proofs.Listings.{AreSeen}
use Rattle.space_index.proofs.index.rows_of.Given as goal

abbrev pub invariant-volumes : goal.invariant-volumes
invariant-volumes l = (sites : ℕ → Option Site) × AreTails l.tails sites × AreSeen l.pools l.file-iterator sites × (l.tails.held.entries ≡ [])
