use Rattle.std.proofs.Common.{◌≡◌, ◌++◌}
use Rattle.std.specs.List.{flat_map}
use Rattle.space.specs.Claims.{if_own}
use Rattle.space.proofs.counted.own_places.Given as goal

abbrev pub invariant-tickets : goal.invariant-tickets
invariant-tickets l = l.out.items ++ flat_map (λ t. if_own l.actor t.1) l.claim-iterator ≡ flat_map (λ t. if_own l.actor t.1) l.space.tickets
