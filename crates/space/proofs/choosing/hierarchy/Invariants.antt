use Rattle.std.proofs.Common.{◌≡◌, ◌-◌, ◌++◌}
use Rattle.pool_rows.specs.Hierarchy.{chain}
use Rattle.space.specs.Placing.{hierarchy}
use Rattle.space.proofs.choosing.hierarchy.Given as goal

abbrev pub invariant-steps : goal.invariant-steps
invariant-steps l = l.out.items ++ chain (l.end - l.counter) l.next l.pools.pools ≡ hierarchy l.start l.pools
