use Rattle.std.proofs.Common.{◌≡◌, ◌++◌, drop}
use Rattle.space.specs.Claims.{on_volume}
use Rattle.space.proofs.runs.push_claims.Given as goal

abbrev pub invariant-places : goal.invariant-places
invariant-places l = l.out.items ++ on_volume l.file (drop l.place-index l.places) ≡ l.initial.out.items ++ on_volume l.file l.places
