use Rattle.std.proofs.Common.{◌≡◌, ◌++◌, drop}
use Rattle.space.specs.Placing.{random_among}
use Rattle.space.proofs.choosing.random_among.Given as goal

abbrev pub invariant-walked : goal.invariant-walked
invariant-walked l = l.out.items ++ random_among (drop l.number-index l.walked) l.pools ≡ random_among l.walked l.pools
