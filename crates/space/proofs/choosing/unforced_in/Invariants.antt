use Rattle.std.proofs.Common.{◌≡◌}
use Rattle.std.specs.List.{find, list_any}
use Rattle.space.specs.Placing.{lies_in}
use Rattle.space.proofs.choosing.unforced_in.Given as goal

abbrev pub invariant-freed : goal.invariant-freed
invariant-freed l = find (λ f. list_any (lies_in l.pools) f.1) l.number-iterator ≡ find (λ f. list_any (lies_in l.pools) f.1) l.space.freed
