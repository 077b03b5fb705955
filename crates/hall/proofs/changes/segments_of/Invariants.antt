use Rattle.std.proofs.Common.{◌≡◌, ◌++◌, drop, map}
use Rattle.space.specs.declared.places.Placed.{Placed}
use Rattle.hall.proofs.changes.segments_of.Given as goal

abbrev pub invariant-places : goal.invariant-places
invariant-places l = l.items.items ++ map (λ (p : Placed). p.segment) (drop l.place-index l.places) ≡ map (λ (p : Placed). p.segment) l.places
