use Rattle.std.proofs.Common.{◌≡◌, ◌++◌}
use Rattle.std.specs.Prelude.{replicate}
use Rattle.pool_tables.proofs.scratch.put_zeros.Given as goal

abbrev pub invariant-zeros : goal.invariant-zeros
invariant-zeros l = l.bytes.items ≡ l.fn.bytes.items ++ replicate l.counter 48
