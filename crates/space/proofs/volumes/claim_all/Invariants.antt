use Rattle.std.proofs.Common.{◌≡◌, drop}
use Rattle.space.specs.Volumes.{claim_all}
use Rattle.space.proofs.volumes.claim_all.Given as goal

abbrev pub invariant-places : goal.invariant-places
invariant-places l = claim_all l.pools (drop l.place-index l.places) l.sites.entries ≡ claim_all l.pools l.places l.initial.sites.entries
