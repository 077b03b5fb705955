use Rattle.space.specs.Claims.{Claims}
use Rattle.space_index.specs.Tails.{IsIndexOf}
use Rattle.benches.proofs.spaces.take_all.Given as goal

abbrev pub invariant-places : goal.invariant-places
invariant-places l = (c : Claims) → IsIndexOf l.initial.index l.initial.pools c → IsIndexOf l.index l.pools c
