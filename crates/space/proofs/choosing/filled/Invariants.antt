use Rattle.std.proofs.Common.{◌≡◌, ◌++◌, drop}
use Rattle.space.specs.Pieces.{filled}
use Rattle.space.proofs.choosing.filled.Given as goal

abbrev pub invariant-free : goal.invariant-free
invariant-free l = l.out.items ++ filled l.rest (drop l.p-index l.free) ≡ filled l.size l.free
