use Rattle.std.proofs.Common.{◌≡◌}
use Rattle.placing.specs.Placing.{place_among}
use Rattle.placing.proofs.places.place_among.Given as goal

abbrev pub invariant-volumes : goal.invariant-volumes
invariant-volumes l = place_among l.pool l.size l.file-iterator ≡ place_among l.pool l.size l.pools.volumes
