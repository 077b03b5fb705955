use Rattle.std.proofs.Common.{◌≡◌, ◌++◌}
use Rattle.std.specs.List.{flat_map}
use Rattle.space.proofs.counted.freed_places.Given as goal

abbrev pub invariant-freed : goal.invariant-freed
invariant-freed l = l.out.items ++ flat_map (λ f. f.1) l.places-iterator ≡ flat_map (λ f. f.1) l.space.freed
