use Rattle.std.proofs.Common.{◌≡◌, drop}
use Rattle.space.specs.Placing.{placed_in}
use Rattle.space.proofs.Lists.{placed_after}
use Rattle.space.proofs.choosing.placed_in.Given as goal

abbrev pub invariant-used : goal.invariant-used
invariant-used l = placed_after l.number l.out.items (drop l.p-index l.used) ≡ placed_in l.number l.used
